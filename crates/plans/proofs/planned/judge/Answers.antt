-- `plans::planned::judge` meets its contract: what stands in the way, or what the engine says by the plan asked for.
-- Assumes nothing.
use mathlib.Core.Path.{sym, subst, ◌∙◌}
use Rattle.std.proofs.Common.{rules}
use Rattle.ticks.specs.declared.plan.Plan.{Plan}
use Rattle.ticks.specs.Grains.{InForce}
use Rattle.plans.specs.Lent.{setting_of}
use Rattle.plans.proofs.Accounts.{in_force_asked}
use Rattle.plans.proofs.Judging.{keeps_refused, judges_current, under_map, standing_ok, standing_err}
use Rattle.plans.proofs.planned.judge.Goals as goal

pub judge-judged-requires : goal.judge-judged-requires
judge-judged-requires g c =
    let a = c.args in
    subst (λ (p : Plan). InForce p a.moment.0) (sym c.asked.ensures)
    (in_force_asked (setting_of a.setting.now) a.moment.0 c.requires)

pub returns-in-Err : goal.returns-in-Err
returns-in-Err g c =
    let a = c.args in
    c.kept.ensures
    ∙ keeps_refused g.met.E.Engine.lawful (setting_of a.setting.now) a.moment.0 a.stored c.requires.plans c.in-Err.reason
    a.cost (sym (standing_err _) ∙ c.in-Err.ensures)

pub returns-in-Ok : goal.returns-in-Ok
returns-in-Ok g c =
    let a = c.args in
    under_map a.setting.now.number c.judge-judged.result _ (search rules)
    ∙ judges_current g.met.E.Engine.lawful (setting_of a.setting.now) a.moment.0 a.stored c.requires.plans
    c.asked.ensures (sym (standing_ok _) ∙ c.in-Ok.ensures) a.cost c.judge-judged.ensures
