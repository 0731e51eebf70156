-- A wait is the least one, at least 1, and at most what the cost alone takes, for any account with the backlog law; and it gets
-- shorter by as much as time passes.
-- Assumes nothing.
use mathlib.Core.Path.{◌≡◌, sym, ap, ◌∙◌}
use mathlib.Core.Bool.{false}
use Prim.Native.Nat.{ℕ, ◌+◌, ◌-◌, ◌*◌, ◌≤◌, ◌<◌}
use native.Mathlib.Nat.{add-sub_cancel_left, le_antisymm, lt_of_not-le}
use native.Mathlib.Omega.{arith}
use lib.Dec.{leb}
use borrow.Author.Tests.{le-leb, leb-true, leb-false}
use Rattle.ticks.specs.declared.plan.Plan.{Plan}
use Rattle.ticks.specs.Grains.{ticks_in, price, capacity, div_up}
use Rattle.ticks.proofs.Limits.{ticks_are, price_within}
use Rattle.ticks.proofs.Rounding.{div_up_least, div_up_mono}
use Rattle.ticks.proofs.Tests.{leb_same}
use Rattle.rate.specs.Decision.{admissible, retry_after}
use Rattle.rate.specs.Account.{Account}
use Rattle.rate.specs.Balanced.{Balanced}

-- what the wait is, of a backlog
module _ (p : Plan) (backlog cost : ℕ) (rate : 1 ≤ p.limit) where
  -- a wait is at least 1
  pub wait_positive : admissible p backlog cost ≡ false → 1 ≤ retry_after p backlog cost
  unfolding admissible retry_after
  wait_positive e =
      let beyond : capacity p < backlog + price p cost = leb-false _ _ e in
      let none : retry_after p backlog cost ≤ 0 → backlog + price p cost - capacity p ≤ 0 * p.limit =
      (div_up_least (backlog + price p cost - capacity p) p.limit 0 rate).0 in
      lt_of_not-le (λ z. let none_beyond = none z in omega arith)

  -- and at most cost×P/N rounded up
  pub wait_most : backlog ≤ capacity p → retry_after p backlog cost ≤ div_up (price p cost) p.limit
  unfolding retry_after
  wait_most h = div_up_mono _ _ _ rate (omega arith)

  -- a backlog that has drained for k ms has room for the cost exactly if the wait is at most k
  drained_admits : cost ≤ p.burst → (k : ℕ) → admissible p (backlog - ticks_in p k) cost ≡ leb (retry_after p backlog cost) k
  unfolding admissible retry_after
  drained_admits h k =
      let passed = ticks_are p k in
      let fits = price_within p cost h in
      let least = div_up_least (backlog + price p cost - capacity p) p.limit k rate in
      leb_same (backlog - ticks_in p k + price p cost) (capacity p) (div_up (backlog + price p cost - capacity p) p.limit) k
      (λ a. least.1 (omega arith)) (λ a. let b = least.0 a in omega arith)

-- the wait is the least: with the record untouched, the same ask k ms later is admitted exactly if the wait is at most k
pub least_wait :
    {P R : Type 0} {A : Account P R} → Balanced A → (p : P) (at : ℕ) (r : R) (cost : ℕ) → 1 ≤ (A.plan p).limit → cost ≤ (A.plan p).burst →
    A.fault p at r ≡ 0 → (k : ℕ) → A.admits p (at + k) r cost ≡ leb (retry_after (A.plan p) (A.backlog p at r) cost) k
least_wait {A = A} L p at r cost rate payable s k =
    L.admits_iff p (at + k) r cost ∙ rw (L.drains p at (at + k) r (omega arith) s, add-sub_cancel_left at k) (drained_admits (A.plan p) (A.backlog p at r) cost rate payable k)

-- so the same ask k ms later has a wait that is by k shorter: both are the least until the same moments
pub wait_drains :
    {P R : Type 0} {A : Account P R} → Balanced A → (p : P) (at : ℕ) (r : R) (cost : ℕ) → 1 ≤ (A.plan p).limit → cost ≤ (A.plan p).burst →
    A.fault p at r ≡ 0 → (k : ℕ) →
    retry_after (A.plan p) (A.backlog p (at + k) r) cost ≡ retry_after (A.plan p) (A.backlog p at r) cost - k
wait_drains {A = A} L p at r cost rate payable s k =
    let w = retry_after (A.plan p) (A.backlog p at r) cost in
    let v = retry_after (A.plan p) (A.backlog p (at + k) r) cost in
    let same : (j : ℕ) → leb v j ≡ leb w (k + j) = λ j.
    let moment : at + k + j ≡ at + (k + j) = omega arith in
    sym (least_wait L p (at + k) r cost rate payable (L.stays_sound p at (at + k) r (omega arith) s) j)
    ∙ ap (λ (m : ℕ). A.admits p m r cost) moment
    ∙ least_wait L p at r cost rate payable s (k + j) in
    let enough : w ≤ k + (w - k) = omega arith in
    let itself : v ≤ v = omega arith in
    let most : v ≤ w - k = leb-true v (w - k) (same (w - k) ∙ le-leb w (k + (w - k)) enough) in
    let least : w ≤ k + v = leb-true w (k + v) (sym (same v) ∙ le-leb v v itself) in
    le_antisymm most (omega arith)

-- .. and ends at the same moment, as long as it is not over
pub wait_ends :
    {P R : Type 0} {A : Account P R} → Balanced A → (p : P) (at : ℕ) (r : R) (cost : ℕ) → 1 ≤ (A.plan p).limit → cost ≤ (A.plan p).burst →
    A.fault p at r ≡ 0 → (m : ℕ) → at ≤ m → m ≤ at + retry_after (A.plan p) (A.backlog p at r) cost →
    m + retry_after (A.plan p) (A.backlog p m r) cost ≡ at + retry_after (A.plan p) (A.backlog p at r) cost
wait_ends {A = A} L p at r cost rate payable s m from until =
    let moment : at + (m - at) ≡ m = omega arith in
    let rest : retry_after (A.plan p) (A.backlog p m r) cost ≡ retry_after (A.plan p) (A.backlog p at r) cost - (m - at) =
    ap (λ (k : ℕ). retry_after (A.plan p) (A.backlog p k r) cost) (sym moment) ∙ wait_drains L p at r cost rate payable s (m - at) in
    omega arith
