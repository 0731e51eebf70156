-- `plans::planned::stands` meets its contract: each return is a way in which a record stands.
-- Assumes nothing.
use mathlib.Core.Path.{sym, ap, subst, ◌∙◌}
use mathlib.Core.Bool.{not}
use Rattle.std.proofs.lemmas.Result.{err_from_is_err_and}
use Rattle.ticks.specs.declared.plan.Plan.{Plan}
use Rattle.ticks.specs.Grains.{InForce}
use Rattle.plans.specs.Lent.{setting_of}
use Rattle.plans.proofs.Accounts.{in_force_at}
use Rattle.plans.proofs.Judging.{finds_unknown, finds_unsound, finds_drained, finds_owing, some_was, none_was, standing_ok, standing_err}
use Rattle.plans.proofs.Standing.{stands_same}
use Rattle.plans.proofs.planned.stands.Goals as goal

pub returns-then-stored-setting : goal.returns-then-stored-setting
returns-then-stored-setting g c =
    let a = c.args in
    standing_ok _ ∙ stands_same g.E.Engine.engine (setting_of a.setting.now) a.moment.0 a.stored c.if-stored-setting.true

pub returns-then-not-is_known : goal.returns-then-not-is_known
returns-then-not-is_known g c =
    let a = c.args in
    standing_err _ ∙ finds_unknown g.E.Engine.engine (setting_of a.setting.now) a.moment.0 a.stored c.if-stored-setting.false c.is_known.ensures (ap not c.if-not-is_known.true)

-- the plan of the record is lent, and so within its limits
pub owed-requires : goal.owed-requires
owed-requires g c =
    let a = c.args in
    subst (λ (p : Plan). InForce p a.moment.0) (sym c.plan_at-own.ensures)
    (in_force_at (setting_of a.setting.now) a.moment.0 c.requires a.stored.number (sym c.is_known.ensures ∙ c.if-not-is_known.false))

pub returns-in_err-owed : goal.returns-in_err-owed
returns-in_err-owed g c =
    let a = c.args in
    let told = err_from_is_err_and c.from_residual.result c.from_residual.ensures.1 in
    let was = none_was c.ok_or.ensures.value c.in_err-owed.was in
    rw (told.1, told.2, was.1)
    (standing_err _
    ∙ finds_unsound g.E.Engine.engine (setting_of a.setting.now) a.moment.0 a.stored c.if-stored-setting.false c.is_known.ensures (ap not c.if-not-is_known.false)
    c.plan_at-own.ensures (was.0 ∙ c.owed.ensures))

pub returns-then-owed-eq0 : goal.returns-then-owed-eq0
returns-then-owed-eq0 g c =
    let a = c.args in
    standing_ok _
    ∙ finds_drained g.E.Engine.engine (setting_of a.setting.now) a.moment.0 a.stored c.if-stored-setting.false c.is_known.ensures (ap not c.if-not-is_known.false)
    c.plan_at-own.ensures (some_was c.ok_or.ensures.ok_part c.in_ok-owed.was ∙ c.owed.ensures) c.if-owed-eq0.true
    (c.fresh.ensures ∙ ap (λ (p : Plan). g.E.Engine.engine.fresh p a.moment.0) c.asked.ensures)

pub returns : goal.returns
returns g c =
    let a = c.args in
    standing_err _
    ∙ finds_owing g.E.Engine.engine (setting_of a.setting.now) a.moment.0 a.stored c.if-stored-setting.false c.is_known.ensures (ap not c.if-not-is_known.false)
    c.plan_at-own.ensures (some_was c.ok_or.ensures.ok_part c.in_ok-owed.was ∙ c.owed.ensures) c.if-owed-eq0.false
