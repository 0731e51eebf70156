-- The reset is the first moment at which nothing is owed, for any account with the backlog law: it is the end of the wait for a
-- whole burst, which is admitted exactly where nothing is owed, and that wait is the least.
-- Assumes nothing.
use mathlib.Core.Path.{◌≡◌, sym, ap, ◌∙◌}
use Prim.Native.Nat.{ℕ, zero, suc, ◌+◌, ◌-◌, ◌≤◌, ◌<◌}
use native.Mathlib.Omega.{arith}
use lib.Dec.{leb, eqb}
use borrow.Author.Tests.{le-leb, lt-leb, ne_eqb}
use Rattle.ticks.specs.declared.plan.Plan.{Plan}
use Rattle.ticks.specs.Grains.{price, capacity, div_up}
use Rattle.ticks.proofs.Limits.{capacity_is_price}
use Rattle.ticks.proofs.Rounding.{div_up_zero}
use Rattle.ticks.proofs.Tests.{leb_same}
use Rattle.rate.specs.Decision.{admissible, reset_at, retry_after}
use Rattle.rate.specs.Account.{Account}
use Rattle.rate.specs.Balanced.{Balanced}
use Rattle.rate.proofs.Wait.{least_wait, wait_ends}

-- a whole burst is admitted exactly where nothing is owed
pub burst_iff_nothing_owed : (p : Plan) (backlog : ℕ) → admissible p backlog p.burst ≡ eqb backlog 0
unfolding admissible
burst_iff_nothing_owed p zero =
    let fits : 0 + price p p.burst ≤ capacity p = omega (arith, capacity_is_price p) in
    le-leb (0 + price p p.burst) (capacity p) fits
burst_iff_nothing_owed p (suc b) =
    let beyond : capacity p < suc b + price p p.burst = omega (arith, capacity_is_price p) in
    lt-leb (suc b + price p p.burst) (capacity p) beyond ∙ sym (ne_eqb (suc b) 0 (λ z. omega arith))

-- the reset is the end of the wait for a whole burst
pub reset_is_burst_wait : (p : Plan) (at backlog : ℕ) → reset_at p at backlog ≡ at + retry_after p backlog p.burst
unfolding reset_at retry_after
reset_is_burst_wait p at backlog =
    let e : backlog + price p p.burst - capacity p ≡ backlog = omega (arith, capacity_is_price p) in
    ap (λ (x : ℕ). at + div_up x p.limit) (sym e)

-- where nothing is owed it is the moment itself
pub reset_of_nothing : (p : Plan) (at : ℕ) → reset_at p at 0 ≡ at
unfolding reset_at
reset_of_nothing p at = omega (arith, div_up_zero p.limit)

-- it is never before the moment
pub reset_from : (p : Plan) (at backlog : ℕ) → at ≤ reset_at p at backlog
unfolding reset_at
reset_from p at backlog = omega arith

module _
    {P R : Type 0} {A : Account P R} (L : Balanced A) (p : P) (at : ℕ) (r : R) (rate : 1 ≤ (A.plan p).limit) (s : A.fault p at r ≡ 0)
    (m : ℕ) (from : at ≤ m) where
  -- with the record untouched, a whole burst is admitted from the reset on, and at no moment before
  pub burst_from_reset : A.admits p m r (A.plan p).burst ≡ leb (reset_at (A.plan p) at (A.backlog p at r)) m
  burst_from_reset =
      let until : at + (m - at) ≡ m = omega arith in
      let reset = reset_is_burst_wait (A.plan p) at (A.backlog p at r) in
      ap (λ (k : ℕ). A.admits p k r (A.plan p).burst) (sym until)
      ∙ least_wait L p at r (A.plan p).burst rate (omega arith) s (m - at)
      ∙ leb_same (retry_after (A.plan p) (A.backlog p at r) (A.plan p).burst) (m - at) (reset_at (A.plan p) at (A.backlog p at r)) m
      (λ h. omega arith) (λ h. omega arith)

  -- .. and nothing is owed from the reset on, and something at every moment before
  pub drained_from_reset : eqb (A.backlog p m r) 0 ≡ leb (reset_at (A.plan p) at (A.backlog p at r)) m
  drained_from_reset =
      sym (burst_iff_nothing_owed (A.plan p) (A.backlog p m r)) ∙ sym (L.admits_iff p m r (A.plan p).burst) ∙ burst_from_reset

  -- until the reset the wait for a whole burst ends there
  pub burst_wait_ends :
      m ≤ reset_at (A.plan p) at (A.backlog p at r) →
      m + retry_after (A.plan p) (A.backlog p m r) (A.plan p).burst ≡ reset_at (A.plan p) at (A.backlog p at r)
  burst_wait_ends until =
      let reset = reset_is_burst_wait (A.plan p) at (A.backlog p at r) in
      wait_ends L p at r (A.plan p).burst rate (omega arith) s m from (omega arith) ∙ sym reset
