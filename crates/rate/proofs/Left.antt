-- Whether a price fits, how many units can be left, and that a cost is admitted exactly if it is at most these.
-- Assumes nothing.
use mathlib.Core.Path.{◌≡◌, ◌∙◌}
use Prim.Native.Nat.{ℕ, ◌+◌, ◌-◌, ◌*◌, ◌/◌, ◌≤◌}
use native.Mathlib.Nat.{div-le_of_le-mul, le-div_iff_mul-le, mul_comm}
use native.Mathlib.Omega.{arith}
use lib.Dec.{leb}
use Rattle.ticks.specs.declared.plan.Plan.{Plan}
use Rattle.ticks.specs.Grains.{price, capacity}
use Rattle.ticks.proofs.Limits.{capacity_is, price_is}
use Rattle.ticks.proofs.Tests.{leb_same}
use Rattle.rate.specs.Decision.{admissible, remaining, reported, admitted}

-- a test is the rule's where each says that the price fits
pub fits_test :
    (p : Plan) (backlog cost a b : ℕ) → (a ≤ b → backlog + price p cost ≤ capacity p) →
    (backlog + price p cost ≤ capacity p → a ≤ b) → leb a b ≡ admissible p backlog cost
unfolding admissible
fits_test p backlog cost a b = leb_same a b (backlog + price p cost) (capacity p)

-- a cost is admitted exactly if it is at most what is left
pub left_admits :
    (p : Plan) (backlog cost : ℕ) → 1 ≤ p.period → backlog ≤ capacity p → admissible p backlog cost ≡ leb cost (remaining p backlog)
unfolding admissible remaining
left_admits p backlog cost unit covered =
    let costs : price p cost ≡ cost * p.period = price_is p cost ∙ mul_comm p.period cost in
    let whole = le-div_iff_mul-le {k = p.period} {x = cost} {y = capacity p - backlog} unit in
    leb_same (backlog + price p cost) (capacity p) cost ((capacity p - backlog) / p.period)
    (λ h. whole.1 (omega arith)) (λ h. let fits = whole.0 h in omega arith)

-- no more units are left than the burst
pub remaining_most : (p : Plan) (backlog : ℕ) → remaining p backlog ≤ p.burst
unfolding remaining
remaining_most p backlog = div-le_of_le-mul p.period (omega (arith, capacity_is p))

pub reported_left_most : (p : Plan) (at backlog : ℕ) → (reported p at backlog).left ≤ p.burst
unfolding reported
reported_left_most p at backlog = remaining_most p _

pub admitted_left_most : (p : Plan) (at backlog cost : ℕ) → (admitted p at backlog cost).left ≤ p.burst
unfolding admitted
admitted_left_most p at backlog cost = reported_left_most p at _
