-- Exactly when each number is given, for any rule: its check applies and none before it; or the record in the own slot, or a
-- fresh one in a free slot, was judged to get it.
-- Assumes nothing.
use mathlib.Core.Path.{◌≡◌, refl, sym, ap, subst, ◌∙◌}
use mathlib.Core.Logic.{◌⊎◌, inl, inr}
use mathlib.Core.Bool.{Bool, true, false}
use Prim.Native.Nat.{ℕ}
use lib.Dec.{eqb, ltb}
use Rattle.rate.specs.declared.answer.Numbers.{Numbers}
use Rattle.rate.specs.Answer.{answered}
use Rattle.rate.specs.Decision.{Verdict, bare}
use Rattle.rate.proofs.Answers.{answered_number, bare_number}
use Rattle.table.specs.Request.{Request}
use Rattle.table.specs.Checks.{request_check}
use Rattle.table.specs.Rule.{Rule}
use Rattle.table.specs.Slots.{Columns}
use Rattle.table.specs.Calls.{Step, slot_for, acquire, gate, toll}
use Rattle.table.specs.Passed.{Asked, Payable, Stopped}
use Rattle.table.proofs.Checks.{stops, stops_not_0, asked_or_stopped, asks, query_first, number_5, number_6}
use Rattle.table.proofs.Outcomes.{stays, refused, full, own_answer, new_answer}
use Rattle.table.proofs.Placing.{Placed, in_own, in_free, nowhere, placed}
use Rattle.law_calls.specs.Causes.{Cause, stopped, zero_cost, cost_above_most, on_own, on_fresh, table_full}

module _ {C P R : Type 0} (U : Rule P R) (K : Columns C R) (r : Request P) (c : C) where
  numbered :
      (v : Verdict) {n : ℕ} → (acquire U K r c).answer ≡ answered r.query.subscriber v → v.number ≡ n →
      (acquire U K r c).answer.number ≡ n
  numbered v e n = ap (λ (x : Numbers). x.number) e ∙ answered_number r.query.subscriber v ∙ n

  -- what a check that applies answers and leaves
  checked : {n : ℕ} → request_check (toll U K r c) ≡ n → eqb n 0 ≡ false → acquire U K r c ≡ stays r c (bare n)
  checked e h = refused U K r c (ap (λ (n : ℕ). eqb n 0) e ∙ h) ∙ ap (λ (n : ℕ). stays r c (bare n)) e

  pub stays_stopped : {n : ℕ} → Stopped (gate U K r.query c) n → acquire U K r c ≡ stays r c (bare n)
  stays_stopped s =
      let number = stops (gate U K r.query c) s in
      let some = stops_not_0 (gate U K r.query c) s in
      checked (query_first (toll U K r c) (ap (λ (n : ℕ). eqb n 0) number ∙ some) ∙ number) some

  bare_of : {n : ℕ} → acquire U K r c ≡ stays r c (bare n) → (acquire U K r c).answer.number ≡ n
  bare_of {n} e = numbered (bare n) (ap (λ (s : Step C). s.answer) e) (bare_number n)

  pub causes : {n : ℕ} → Cause U K r c n → (acquire U K r c).answer.number ≡ n
  causes (stopped s) = bare_of (stays_stopped s)
  causes (zero_cost a z) = bare_of (checked (number_5 (toll U K r c) (asks (gate U K r.query c) a) z) refl)
  causes (cost_above_most a z b) = bare_of (checked (number_6 (toll U K r c) (asks (gate U K r.query c) a) z b) refl)
  causes (on_own p i o e) = numbered _ (own_answer U K r c i p o) e
  causes (on_fresh p i u v e) = numbered _ (new_answer U K r c i p u v) e
  causes (table_full p u f) = bare_of (full U K r c p u f)

  -- there is always a cause
  in_slot : Payable (toll U K r c) → Placed U K r.query c (slot_for U K r.query c) → (n : ℕ) × Cause U K r c n
  in_slot p (in_own i o e) = (_, on_own p i o refl)
  in_slot p (in_free i u v e) = (_, on_fresh p i u v refl)
  in_slot p (nowhere u f e) = (9, table_full p u f)

  paid : Asked (gate U K r.query c) → (n : ℕ) × Cause U K r c n
  paid a = by (eqb r.cost 0) refl (ltb (U.most r.query.setting) r.cost) refl
    where
      by : (z : Bool) → eqb r.cost 0 ≡ z → (b : Bool) → ltb (U.most r.query.setting) r.cost ≡ b → (n : ℕ) × Cause U K r c n
      by true ez b eb = (5, zero_cost a ez)
      by false ez true eb = (6, cost_above_most a ez eb)
      by false ez false eb = in_slot (record { asked = a; cost = ez; burst = eb }) (placed U K r.query c)

  a_cause : (n : ℕ) × Cause U K r c n
  a_cause = by (asked_or_stopped (gate U K r.query c))
    where
      by : Asked (gate U K r.query c) ⊎ ((n : ℕ) × Stopped (gate U K r.query c) n) → (n : ℕ) × Cause U K r c n
      by (inl a) = paid a
      by (inr s) = (s.0, stopped s.1)

  pub caused : {n : ℕ} → (acquire U K r c).answer.number ≡ n → Cause U K r c n
  caused e = let g = a_cause in subst (λ (k : ℕ). Cause U K r c k) (sym (causes g.1) ∙ e) g.1
