-- A subscriber without a record has a full bucket: any cost up to the burst is admitted, and a look shows the burst left
-- and the moment itself.
-- Assumes nothing.
use mathlib.Core.Path.{◌≡◌, ap, ◌∙◌}
use mathlib.Core.Bool.{true}
use Prim.Native.Nat.{ℕ, ◌+◌, ◌≤◌}
use native.Mathlib.Nat.{sub-zero, mul-div_right}
use native.Mathlib.Omega.{arith}
use borrow.Author.Tests.{le-leb}
use Rattle.ticks.specs.declared.plan.Plan.{Plan}
use Rattle.ticks.specs.Grains.{price, capacity}
use Rattle.ticks.proofs.Limits.{capacity_is, price_within}
use Rattle.rate.specs.Decision.{admissible, remaining, reported}
use Rattle.rate.specs.Account.{Account, report}
use Rattle.rate.specs.Balanced.{Balanced}
use Rattle.rate.proofs.Cases.{report_sound}
use Rattle.rate.proofs.Reset.{reset_of_nothing}

pub burst_admissible : (p : Plan) (cost : ℕ) → cost ≤ p.burst → admissible p 0 cost ≡ true
unfolding admissible
burst_admissible p cost h =
    let fits = price_within p cost h in
    let within : 0 + price p cost ≤ capacity p = omega arith in
    le-leb (0 + price p cost) (capacity p) within

pub nothing_owed :
    (p : Plan) (at : ℕ) → 1 ≤ p.period → reported p at 0 ≡ record { number = 0; left = p.burst; reset = at; wait = 0 }
unfolding reported remaining
nothing_owed p at unit = simp (sub-zero, capacity_is p, mul-div_right p.burst unit, reset_of_nothing p at)

module _ {P R : Type 0} {A : Account P R} (L : Balanced A) (p : P) (at : ℕ) where
  pub fresh_admits : (cost : ℕ) → cost ≤ (A.plan p).burst → A.admits p at (A.fresh p at) cost ≡ true
  fresh_admits cost h =
      L.admits_iff p at (A.fresh p at) cost
      ∙ ap (λ (b : ℕ). admissible (A.plan p) b cost) (L.fresh_owes_nothing p at)
      ∙ burst_admissible (A.plan p) cost h

  pub fresh_report :
      A.ok p ≡ true → 1 ≤ (A.plan p).period → report A p at (A.fresh p at) ≡ record { number = 0; left = (A.plan p).burst; reset = at; wait = 0 }
  fresh_report o unit =
      report_sound A p at (A.fresh p at) (L.fresh_sound p at o)
      ∙ ap (λ (b : ℕ). reported (A.plan p) at b) (L.fresh_owes_nothing p at)
      ∙ nothing_owed (A.plan p) at unit
