-- The seconds that are told are the least whole seconds that cover the time, so no client comes too early. Retry-After is
-- told under number 8 and under no other.
-- Assumes nothing.
use mathlib.Core.Path.{◌≡◌, refl, ap}
use mathlib.Core.Logic.{◌⊎◌, inl, inr}
use mathlib.Core.Bool.{Bool, true, false}
use Prim.Native.Nat.{ℕ, ◌-◌, ◌*◌, ◌≤◌}
use native.Mathlib.Omega.{arith}
use lib.Dec.{eqb}
use borrow.Author.Tests.{eq-eqb, eqb-true}
use Rattle.ticks.specs.declared.plan.Plan.{Plan}
use Rattle.ticks.specs.Grains.{capacity, div_up, plan_ok}
use Rattle.ticks.proofs.Limits.{capacity_is}
use Rattle.ticks.proofs.Rounding.{div_up_least}
use Rattle.rate.specs.declared.answer.Numbers.{Numbers}
use Rattle.http_fields.specs.Fields.{seconds, window_of, silent, planned, reported, fields_of}
use Rattle.http_fields.specs.Laws.{Covers}
use Rattle.http_fields.proofs.Cases.{bad_plan, admitted, throttled, refused}

pub seconds_least : (span : ℕ) → Covers (seconds span) span
unfolding seconds
seconds_least span k = div_up_least span 1000 k (omega arith)

-- the window is the least whole seconds in which a whole burst is earned
pub window_least :
    (p : Plan) → 1 ≤ p.limit → (k : ℕ) →
    (window_of p ≤ k → p.period * p.burst ≤ k * 1000 * p.limit) × (p.period * p.burst ≤ k * 1000 * p.limit → window_of p ≤ k)
unfolding window_of
window_least p rate k =
    let drained = div_up_least (capacity p) p.limit (k * 1000) rate in
    let told = seconds_least (div_up (capacity p) p.limit) k in
    let full = capacity_is p in
    (λ h. omega (arith, full, drained.0 (told.0 h)), λ h. told.1 (drained.1 (omega (arith, full, h))))

module _ (p : Plan) (at : ℕ) (a : Numbers) where
  -- Retry-After covers the wait, and no fewer seconds do
  pub retry_least : plan_ok p ≡ true → a.number ≡ 8 → Covers (fields_of p at a).retry_after a.wait
  unfolding reported
  retry_least e n = rw (throttled p at a e (ap (λ (x : ℕ). eqb x 0) n) (eq-eqb _ _ n)) (seconds_least a.wait)

  -- it is 0, and so is not sent, unless the number is 8
  pub retry_none : eqb a.number 8 ≡ false → (fields_of p at a).retry_after ≡ 0
  unfolding reported planned silent
  retry_none n = by (plan_ok p) refl (eqb a.number 0) refl
    where
      by : (ok : Bool) → plan_ok p ≡ ok → (zero : Bool) → eqb a.number 0 ≡ zero → (fields_of p at a).retry_after ≡ 0
      by false e zero z = rw (bad_plan p at a e)
      by true e true z = rw (admitted p at a e z)
      by true e false z = rw (refused p at a e z n)

  -- the seconds until the reset cover the time from the moment to it, and no fewer do
  pub reset_least : plan_ok p ≡ true → (a.number ≡ 0) ⊎ (a.number ≡ 8) → Covers (fields_of p at a).reset (a.reset - at)
  unfolding reported
  reset_least e (inl n) = rw (admitted p at a e (eq-eqb _ _ n)) (seconds_least (a.reset - at))
  reset_least e (inr n) =
      rw (throttled p at a e (ap (λ (x : ℕ). eqb x 0) n) (eq-eqb _ _ n)) (seconds_least (a.reset - at))

  -- no more remains than the quota, if the answer has no more left than the burst
  pub remaining_most :
      (a.number ≡ 0 → a.left ≤ p.burst) → (a.number ≡ 8 → a.left ≤ p.burst) → (fields_of p at a).remaining ≤ (fields_of p at a).quota
  unfolding reported planned silent
  remaining_most zero eight = by (plan_ok p) refl (eqb a.number 0) refl (eqb a.number 8) refl
    where
      by :
          (ok : Bool) → plan_ok p ≡ ok → (z : Bool) → eqb a.number 0 ≡ z → (n : Bool) → eqb a.number 8 ≡ n →
          (fields_of p at a).remaining ≤ (fields_of p at a).quota
      by false e z ez n en = rw (bad_plan p at a e) (omega arith)
      by true e true ez n en = rw (admitted p at a e ez) (zero (eqb-true _ _ ez))
      by true e false ez true en = rw (throttled p at a e ez en) (eight (eqb-true _ _ en))
      by true e false ez false en = rw (refused p at a e ez en) (omega arith)
