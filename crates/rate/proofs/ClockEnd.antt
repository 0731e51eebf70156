-- The clock's end (document 02, Item 13): a wait that ends within the clock's limit is told, and any other is not on this clock;
-- and what a request that is not admitted gets in either case.
-- Assumes nothing.
use mathlib.Core.Path.{◌≡◌, refl, sym, ap, ◌∙◌}
use mathlib.Core.Bool.{Bool, true, false, cond}
use Prim.Native.Nat.{ℕ, ◌+◌, ◌≤◌, ◌<◌}
use native.Mathlib.Omega.{arith}
use lib.Dec.{eqb}
use Rattle.std.specs.Prelude.{Option, Some, None}
use Rattle.ticks.specs.declared.plan.Plan.{Plan}
use Rattle.ticks.specs.declared.units.Millis.{Millis}
use Rattle.ticks.specs.Grains.{on_clock, last_moment}
use Rattle.ticks.proofs.Limits.{clock_within, clock_beyond, on_clock_lem, off_clock}
use Rattle.rate.specs.Decision.{Verdict, bare, retry_from, denied, throttled, remaining, reset_at, retry_after}
use Rattle.rate.proofs.Answers.{bare_number}

pub retry_within : (at wait : ℕ) → on_clock (at + wait) ≡ true → retry_from at wait ≡ Some (record { 0 = wait })
unfolding retry_from
retry_within at wait e =
    ap (λ (t : Bool). cond t (Some (record { 0 = wait })) None) (clock_within _ (omega (arith, on_clock_lem (at + wait) e)))

pub retry_beyond : (at wait : ℕ) → on_clock (at + wait) ≡ false → retry_from at wait ≡ None
unfolding retry_from
retry_beyond at wait e =
    ap (λ (t : Bool). cond t (Some (record { 0 = wait })) None) (clock_beyond _ (omega (arith, off_clock (at + wait) e)))

-- the same by the numbers
pub retry_fits : (at : ℕ) (wait : Millis) → at + wait.0 ≤ last_moment → Some wait ≡ retry_from at wait.0
retry_fits at wait h = sym (retry_within at wait.0 (clock_within _ h))

pub retry_ends_beyond : (at wait : ℕ) → last_moment < at + wait → None ≡ retry_from at wait
retry_ends_beyond at wait h = sym (retry_beyond at wait (clock_beyond _ h))

-- what a rule answers in either case
pub denied_8 :
    (left reset : ℕ) (wait : Millis) → denied left reset (Some wait) ≡ record { number = 8; left = left; reset = reset; wait = wait.0 }
unfolding denied
denied_8 left reset wait = refl

pub denied_13 : (left reset : ℕ) → denied left reset None ≡ bare 13
unfolding denied
denied_13 left reset = refl

-- .. and an account
module _ (p : Plan) (at backlog cost : ℕ) where
  pub throttled_8 :
      on_clock (at + retry_after p backlog cost) ≡ true →
      throttled p at backlog cost
      ≡ record { number = 8; left = remaining p backlog; reset = reset_at p at backlog; wait = retry_after p backlog cost }
  unfolding throttled
  throttled_8 e =
      ap (λ (r : Option Millis). denied (remaining p backlog) (reset_at p at backlog) r) (retry_within at (retry_after p backlog cost) e)
      ∙ denied_8 (remaining p backlog) (reset_at p at backlog) (record { 0 = retry_after p backlog cost })

  pub throttled_13 : on_clock (at + retry_after p backlog cost) ≡ false → throttled p at backlog cost ≡ bare 13
  unfolding throttled
  throttled_13 e =
      ap (λ (r : Option Millis). denied (remaining p backlog) (reset_at p at backlog) r) (retry_beyond at (retry_after p backlog cost) e)
      ∙ denied_13 (remaining p backlog) (reset_at p at backlog)

  -- a property that a verdict has in both cases
  pub by_clock_end :
      (T : Verdict → Type 0) →
      T (record { number = 8; left = remaining p backlog; reset = reset_at p at backlog; wait = retry_after p backlog cost }) →
      T (bare 13) → T (throttled p at backlog cost)
  by_clock_end T within beyond = by (on_clock (at + retry_after p backlog cost)) refl
    where
      by : (t : Bool) → on_clock (at + retry_after p backlog cost) ≡ t → T (throttled p at backlog cost)
      by true e = rw (throttled_8 e) within
      by false e = rw (throttled_13 e) beyond

  -- neither is number 0
  pub throttled_not_0 : eqb (throttled p at backlog cost).number 0 ≡ false
  throttled_not_0 = by_clock_end (λ (v : Verdict). eqb v.number 0 ≡ false) refl (ap (λ (n : ℕ). eqb n 0) (bare_number 13))
