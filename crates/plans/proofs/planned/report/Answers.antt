-- `plans::planned::report` meets its contract: what stands in the way, or what the engine says by the plan asked for.
-- Assumes nothing.
use mathlib.Core.Path.{sym, subst, ◌∙◌}
use Rattle.ticks.specs.declared.plan.Plan.{Plan}
use Rattle.ticks.specs.Grains.{InForce}
use Rattle.plans.specs.Lent.{setting_of}
use Rattle.plans.proofs.Accounts.{in_force_asked}
use Rattle.plans.proofs.Judging.{reports_refused, reports_current, standing_ok, standing_err}
use Rattle.plans.proofs.planned.report.Goals as goal

pub report-requires : goal.report-requires
report-requires g c =
    let a = c.args in
    subst (λ (p : Plan). InForce p a.moment.0) (sym c.asked.ensures)
    (in_force_asked (setting_of a.setting.now) a.moment.0 c.requires)

pub returns-in-Err : goal.returns-in-Err
returns-in-Err g c =
    let a = c.args in
    reports_refused g.met.E.Engine.lawful (setting_of a.setting.now) a.moment.0 a.stored c.requires.plans c.in-Err.reason
    (sym (standing_err _) ∙ c.in-Err.ensures)

pub returns-in-Ok : goal.returns-in-Ok
returns-in-Ok g c =
    let a = c.args in
    reports_current g.met.E.Engine.lawful (setting_of a.setting.now) a.moment.0 a.stored c.requires.plans
    c.asked.ensures (sym (standing_ok _) ∙ c.in-Ok.ensures) c.report.ensures
