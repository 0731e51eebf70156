-- Demand 1 on one record, of any account: beside a number other than 0 and 8 there are zeros, and under 0 there is no wait.
-- Assumes nothing.
use mathlib.Core.Path.{◌≡◌, refl, sym, subst, ◌∙◌}
use mathlib.Core.Bool.{Bool, true, false, false≢true}
use Prim.Native.Nat.{ℕ, zero, suc}
use native.Mathlib.Omega.{arith}
use borrow.Author.Tests.{eq-eqb, ne_eqb}
use Rattle.rate.specs.Decision.{Verdict, ZerosBeside, bare, reported, admitted, throttled}
use Rattle.rate.specs.Account.{Account, Judged, judge, report}
use Rattle.rate.proofs.Answers.{bare_left, bare_reset, bare_wait, reported_number, reported_wait, admitted_number, admitted_wait}
use Rattle.rate.proofs.ClockEnd.{by_clock_end}
use Rattle.rate.proofs.Cases.{judge_faulty, judge_admitted, judge_throttled, report_faulty, report_sound}

pub bare_zeros : (n : ℕ) → ZerosBeside (bare n)
bare_zeros n not_0 not_8 = record { no_left = bare_left n; no_reset = bare_reset n; no_wait = bare_wait n }

-- of 0 and 8 nothing is said
number_0 : (v : Verdict) → v.number ≡ 0 → ZerosBeside v
number_0 v e not_0 not_8 = absurd (false≢true (sym not_0 ∙ eq-eqb _ _ e))

number_8 : (v : Verdict) → v.number ≡ 8 → ZerosBeside v
number_8 v e not_0 not_8 = absurd (false≢true (sym not_8 ∙ eq-eqb _ _ e))

module _ {P R : Type 0} (A : Account P R) (p : P) (at : ℕ) (r : R) where
  -- a property of verdicts that a faulty record's, an admission's and a denial's have is that of an ask
  judged : (T : Verdict → Type 0) (cost : ℕ) →
      ((n : ℕ) → T (bare n)) → T (admitted (A.plan p) at (A.backlog p at r) cost) → T (throttled (A.plan p) at (A.backlog p at r) cost) →
      T (judge A p at r cost).verdict
  judged T cost faulty admits throttles = by (A.fault p at r) refl (A.admits p at r cost) refl
    where
      by : (n : ℕ) → A.fault p at r ≡ n → (t : Bool) → A.admits p at r cost ≡ t → T (judge A p at r cost).verdict
      by zero s true a = subst (λ (j : Judged R). T j.verdict) (sym (judge_admitted A p at r cost s a)) admits
      by zero s false a = subst (λ (j : Judged R). T j.verdict) (sym (judge_throttled A p at r cost s a)) throttles
      by (suc n) s t a =
          subst (λ (j : Judged R). T j.verdict) (sym (judge_faulty A p at r cost (ne_eqb (A.fault p at r) 0 (λ z. omega arith))))
          (faulty (A.fault p at r))

  pub judge_zeros : (cost : ℕ) → ZerosBeside (judge A p at r cost).verdict
  judge_zeros cost =
      judged (λ (v : Verdict). ZerosBeside v) cost bare_zeros
      (number_0 _ (admitted_number (A.plan p) at (A.backlog p at r) cost))
      (by_clock_end (A.plan p) at (A.backlog p at r) cost (λ (v : Verdict). ZerosBeside v) (number_8 _ refl) (bare_zeros 13))

  pub admitted_waits_not : (cost : ℕ) → (judge A p at r cost).verdict.number ≡ 0 → (judge A p at r cost).verdict.wait ≡ 0
  admitted_waits_not cost =
      judged (λ (v : Verdict). v.number ≡ 0 → v.wait ≡ 0) cost (λ n e. bare_wait n)
      (λ e. admitted_wait (A.plan p) at (A.backlog p at r) cost)
      (by_clock_end (A.plan p) at (A.backlog p at r) cost (λ (v : Verdict). v.number ≡ 0 → v.wait ≡ 0) (λ e. absurd (omega arith))
      (λ e. bare_wait 13))

  -- and what a faulty record's look and a sound one's have is that of a look
  looked : (T : Verdict → Type 0) → ((n : ℕ) → T (bare n)) → T (reported (A.plan p) at (A.backlog p at r)) → T (report A p at r)
  looked T faulty sound = by (A.fault p at r) refl
    where
      by : (n : ℕ) → A.fault p at r ≡ n → T (report A p at r)
      by zero s = subst T (sym (report_sound A p at r s)) sound
      by (suc n) s =
          subst T (sym (report_faulty A p at r (ne_eqb (A.fault p at r) 0 (λ z. omega arith)))) (faulty (A.fault p at r))

  pub report_zeros : ZerosBeside (report A p at r)
  report_zeros = looked (λ (v : Verdict). ZerosBeside v) bare_zeros (number_0 _ (reported_number (A.plan p) at (A.backlog p at r)))

  pub report_waits_not : (report A p at r).wait ≡ 0
  report_waits_not = looked (λ (v : Verdict). v.wait ≡ 0) bare_wait (reported_wait (A.plan p) at (A.backlog p at r))
