-- A look is an ask that costs nothing: the same verdict, and the record stays. And it shows what an ask has just reported.
-- Assumes nothing.
use mathlib.Core.Path.{◌≡◌, refl, sym, ap, ◌∙◌}
use mathlib.Core.Bool.{true}
use Prim.Native.Nat.{ℕ, zero, suc, ◌+◌}
use native.Mathlib.Nat.{add-zero}
use native.Mathlib.Omega.{arith}
use borrow.Author.Tests.{le-leb, ne_eqb}
use Rattle.ticks.specs.declared.plan.Plan.{Plan}
use Rattle.ticks.specs.Grains.{price, capacity, on_clock}
use Rattle.ticks.proofs.Products.{price_none}
use Rattle.rate.specs.Decision.{Verdict, admissible, reported, admitted, throttled, retry_after}
use Rattle.rate.specs.Account.{Account, judge, report}
use Rattle.rate.specs.Balanced.{Balanced}
use Rattle.rate.proofs.Answers.{reported_left, reported_reset}
use Rattle.rate.proofs.Cases.{judge_faulty, judge_admitted, report_faulty, report_sound}
use Rattle.rate.proofs.ClockEnd.{throttled_8}

-- nothing costs nothing
admitted_none : (p : Plan) (at backlog : ℕ) → admitted p at backlog 0 ≡ reported p at backlog
unfolding admitted
admitted_none p at backlog = ap (λ (b : ℕ). reported p at b) (ap (λ (x : ℕ). backlog + x) (price_none p) ∙ add-zero backlog)

module _ {P R : Type 0} {A : Account P R} (L : Balanced A) (p : P) (at : ℕ) (r : R) where
  admits_none : A.fault p at r ≡ 0 → A.admits p at r 0 ≡ true
  unfolding admissible
  admits_none s = L.admits_iff p at r 0 ∙ le-leb (A.backlog p at r + price (A.plan p) 0) (capacity (A.plan p)) (omega (arith, price_none (A.plan p), L.within p at r s))

  pub look_is_free_ask : report A p at r ≡ (judge A p at r 0).verdict
  look_is_free_ask = by (A.fault p at r) refl
    where
      by : (n : ℕ) → A.fault p at r ≡ n → report A p at r ≡ (judge A p at r 0).verdict
      by zero s =
          report_sound A p at r s ∙ sym (admitted_none (A.plan p) at (A.backlog p at r))
          ∙ sym (ap (λ j. j.verdict) (judge_admitted A p at r 0 s (admits_none s)))
      by (suc n) s =
          let some = ne_eqb (A.fault p at r) 0 (λ z. omega arith) in
          report_faulty A p at r some ∙ sym (ap (λ j. j.verdict) (judge_faulty A p at r 0 some))

  -- a look at the record that an admission left shows what the admission reported
  pub look_after :
      (cost : ℕ) → A.ok p ≡ true → A.admits p at r cost ≡ true →
      report A p at (A.spend p at r cost) ≡ admitted (A.plan p) at (A.backlog p at r) cost
  unfolding admitted
  look_after cost o a =
      report_sound A p at (A.spend p at r cost) (L.spends_sound p at r cost o a)
      ∙ ap (λ (b : ℕ). reported (A.plan p) at b) (L.spends p at r cost a)

-- a denial with a wait reports what a look shows
module _ (p : Plan) (at backlog cost : ℕ) (e : on_clock (at + retry_after p backlog cost) ≡ true) where
  pub throttled_left : (throttled p at backlog cost).left ≡ (reported p at backlog).left
  throttled_left = ap (λ (v : Verdict). v.left) (throttled_8 p at backlog cost e) ∙ sym (reported_left p at backlog)

  pub throttled_reset : (throttled p at backlog cost).reset ≡ (reported p at backlog).reset
  throttled_reset = ap (λ (v : Verdict). v.reset) (throttled_8 p at backlog cost e) ∙ sym (reported_reset p at backlog)
