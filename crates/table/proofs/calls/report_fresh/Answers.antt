-- `table::calls::report_fresh` meets its contract: a fresh record is of the plan asked for.
-- Assumes nothing.
use mathlib.Core.Path.{refl, sym, ap, subst, ◌∙◌}
use Rattle.ticks.specs.declared.plan.Plan.{Plan}
use Rattle.ticks.specs.Grains.{InForce}
use Rattle.plans.specs.Plans.{planned}
use Rattle.plans.specs.Standing.{judged}
use Rattle.plans.proofs.Accounts.{in_force_asked}
use Rattle.plans.proofs.Judging.{reports_current}
use Rattle.plans.proofs.Standing.{stands_same}
use Rattle.table.specs.Lent.{asked_of}
use Rattle.table.proofs.calls.report_fresh.Goals as goal

pub report-requires : goal.report-requires
report-requires g c =
    let q = asked_of c.args.query.now in
    subst (λ (p : Plan). InForce p q.moment) (sym c.asked-plan.ensures) (in_force_asked q.setting q.moment c.requires)

pub returns : goal.returns
returns g c =
    let q = asked_of c.args.query.now in
    let E = g.E.Engine.engine in
    let r = (planned E).fresh q.setting q.moment in
    let fresh = c.fresh.ensures ∙ ap (λ (p : Plan). E.fresh p q.moment) c.asked-plan.ensures in
    reports_current g.met.E.Engine.lawful q.setting q.moment r c.requires.plans c.asked-plan.ensures
    (ap (λ x. judged x) fresh ∙ stands_same E q.setting q.moment r refl) c.report.ensures
