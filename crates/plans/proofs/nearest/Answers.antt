-- `plans::nearest` meets its contract: the place is that of a plan that is lent, and of the number if one with it is.
-- Assumes nothing.
use native.Mathlib.Omega.{arith}
use mathlib.Core.Path.{◌≡◌, sym, ap, subst, ◌∙◌}
use Prim.Native.Nat.{ℕ}
use Rattle.ticks.specs.declared.plan.Plan.{Plan}
use Rattle.ticks.specs.Grains.{WithinLimits}
use Rattle.plans.specs.Lent.{plans_in}
use Rattle.plans.specs.Plans.{plan_at}
use Rattle.plans.proofs.Lent.{lent_below}
use Rattle.plans.proofs.nearest.Goals as goal

pub returns : goal.returns
returns c =
    let ps = plans_in c.args.plans.now in
    let place = c.min in record {
      within_limits = subst (λ (p : Plan). WithinLimits p) (sym c.nth.ensures) (c.requires.each place.result (omega (arith, place.ensures, c.count-last.ensures, c.requires.least)));
      value = λ k.
          let same : place.result ≡ c.args.number = omega (arith, place.ensures, c.count-last.ensures, lent_below ps c.args.number k) in
          c.nth.ensures ∙ ap (λ (k : ℕ). plan_at ps k) same;
    }
