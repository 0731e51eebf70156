-- Exactly when a peek gets each of its numbers, for any rule: its check applies and none before it; or the own record, or a fresh
-- one, reports it.
-- Assumes nothing.
use mathlib.Core.Path.{◌≡◌, refl, sym, ap, subst, ◌∙◌}
use mathlib.Core.Logic.{◌⊎◌, inl, inr}
use Prim.Native.Nat.{ℕ}
use lib.Dec.{eqb}
use Rattle.rate.specs.declared.answer.Numbers.{Numbers}
use Rattle.rate.specs.Answer.{answered}
use Rattle.rate.specs.Decision.{Verdict, bare}
use Rattle.rate.proofs.Answers.{answered_number, bare_number}
use Rattle.std.specs.Prelude.{Option}
use Rattle.std.specs.Prelude.{Some, None}
use Rattle.table.specs.Request.{Query}
use Rattle.table.specs.Rule.{Rule}
use Rattle.table.specs.Slots.{Columns, seek, carries}
use Rattle.table.specs.Calls.{peek, gate}
use Rattle.table.specs.Passed.{Asked, Stopped}
use Rattle.table.proofs.Cases.{peek_refused, peek_answers}
use Rattle.table.proofs.Checks.{stops, stops_not_0, asked_or_stopped}
use Rattle.table.proofs.Seek.{Sought, sought}
use Rattle.law_calls.specs.PeekCauses.{PeekCause, stopped, on_own, on_fresh}
use Rattle.law_calls.proofs.Peek.{peek_own, peek_fresh}

module _ {C P R : Type 0} (U : Rule P R) (K : Columns C R) (q : Query P) (c : C) where
  numbered : (v : Verdict) {n : ℕ} → (peek U K q c).answer ≡ answered q.subscriber v → v.number ≡ n → (peek U K q c).answer.number ≡ n
  numbered v e n = ap (λ (x : Numbers). x.number) e ∙ answered_number q.subscriber v ∙ n

  -- what a check that applies answers
  pub peek_stopped : {n : ℕ} → Stopped (gate U K q c) n → (peek U K q c).answer ≡ answered q.subscriber (bare n)
  peek_stopped s =
      let number = stops (gate U K q c) s in
      let refusal = peek_refused U K c q (ap (λ (n : ℕ). eqb n 0) number ∙ stops_not_0 (gate U K q c) s) in
      peek_answers U K c q ∙ ap (λ (v : Verdict). answered q.subscriber v) (refusal ∙ ap bare number)

  pub peek_causes : {n : ℕ} → PeekCause U K q c n → (peek U K q c).answer.number ≡ n
  peek_causes (stopped s) = numbered _ (peek_stopped s) (bare_number _)
  peek_causes (on_own a i o e) = numbered _ (peek_own U K q c i a o) e
  peek_causes (on_fresh a u e) = numbered _ (peek_fresh U K q c a u) e

  -- there is always a cause
  in_place :
      Asked (gate U K q c) → (p : Option ℕ) → Sought (carries (K.ids c) q.subscriber) (K.slots c) p → (n : ℕ) × PeekCause U K q c n
  in_place a None u = (_, on_fresh a u refl)
  in_place a (Some i) o = (_, on_own a i o refl)

  a_cause : (n : ℕ) × PeekCause U K q c n
  a_cause = by (asked_or_stopped (gate U K q c))
    where
      by : Asked (gate U K q c) ⊎ ((n : ℕ) × Stopped (gate U K q c) n) → (n : ℕ) × PeekCause U K q c n
      by (inl a) =
          in_place a (seek (carries (K.ids c) q.subscriber) (K.slots c)) (sought (carries (K.ids c) q.subscriber) (K.slots c))
      by (inr s) = (s.0, stopped s.1)

  pub peek_caused : {n : ℕ} → (peek U K q c).answer.number ≡ n → PeekCause U K q c n
  peek_caused e = let g = a_cause in subst (λ (k : ℕ). PeekCause U K q c k) (sym (peek_causes g.1) ∙ e) g.1
