-- What stands beside the number of an answer: the subscriber asked for; zeros, for any rule whose verdicts have them; under 0 no
-- wait, for any account; and beside that of a clear zeros.
-- Assumes nothing.
use mathlib.Core.Path.{◌≡◌, refl, sym, ap, subst, ◌∙◌}
use mathlib.Core.Bool.{Bool, true, false}
use Prim.Native.Nat.{ℕ, zero, suc}
use native.Mathlib.Omega.{arith}
use lib.Dec.{eqb}
use borrow.Author.Tests.{ne_eqb}
use Rattle.rate.specs.declared.answer.Numbers.{Numbers}
use Rattle.rate.specs.Answer.{answered}
use Rattle.rate.specs.Decision.{Verdict, Zeros, ZerosBeside, bare}
use Rattle.rate.specs.Account.{Account}
use Rattle.rate.proofs.Answers.{answered_number, answered_subscriber, answered_left, answered_reset, answered_wait, bare_number, bare_left, bare_reset, bare_wait}
use Rattle.rate.proofs.Zeros as record_zeros
use Rattle.rate.proofs.Zeros.{bare_zeros}
use Rattle.table.specs.Request.{Query, Request}
use Rattle.table.specs.Checks.{slots_ok, query_check, request_check}
use Rattle.table.specs.Rule.{Rule, rule_of, BareRefusals}
use Rattle.table.specs.Slots.{Columns}
use Rattle.table.specs.Calls.{Step, slot_for, held, acquire, peek_verdict, peek, clear, gate, toll}
use Rattle.table.specs.Passed.{Payable}
use Rattle.table.proofs.Cases.{peek_refused, peek_reported, peek_answers, clear_done, clear_unfit}
use Rattle.table.proofs.Checks.{payable}
use Rattle.table.proofs.Outcomes.{refused, full, own_answer, new_answer}
use Rattle.table.proofs.Placing.{Placed, in_own, in_free, nowhere, placed}
use Rattle.law_calls.specs.Causes.{verdict_on}
use Rattle.law_calls.specs.Refusal.{Refusal}

-- a refusal, whole
pub refusal :
    {C : Type 0} (n subscriber : ℕ) (c : C) (s : Step C) → s.answer ≡ answered subscriber (bare n) → s.after ≡ c →
    Refusal n subscriber c s
refusal n subscriber c s e after =
    record {
      answer = e;
      number = ap (λ (x : Numbers). x.number) e ∙ answered_number subscriber (bare n) ∙ bare_number n;
      left = ap (λ (x : Numbers). x.left) e ∙ answered_left subscriber (bare n) ∙ bare_left n;
      reset = ap (λ (x : Numbers). x.reset) e ∙ answered_reset subscriber (bare n) ∙ bare_reset n;
      wait = ap (λ (x : Numbers). x.wait) e ∙ answered_wait subscriber (bare n) ∙ bare_wait n;
      after = after;
    }

-- an answer that is some verdict with a property, for a subscriber
record Bears (T : Verdict → Type 0) (subscriber : ℕ) (x : Numbers) : Type 0 where
  pub verdict : Verdict
  pub is : x ≡ answered subscriber verdict
  pub has : T verdict

-- an acquire's verdict is a number with zeros, or what a record was judged to get
module _
    {C P R : Type 0} (U : Rule P R) (K : Columns C R) (r : Request P) (c : C) (T : Verdict → Type 0) (bares : (n : ℕ) → T (bare n))
    (judged : (held : R) → T (verdict_on U r held)) where
  in_slot : Payable (toll U K r c) → Placed U K r.query c (slot_for U K r.query c) → Bears T r.query.subscriber (acquire U K r c).answer
  in_slot p (in_own i o e) = record { verdict = _; is = own_answer U K r c i p o; has = judged (K.row c i) }
  in_slot p (in_free i u v e) = record { verdict = _; is = new_answer U K r c i p u v; has = judged (U.fresh r.query.setting r.query.moment) }
  in_slot p (nowhere u f e) = record { verdict = bare 9; is = ap (λ (s : Step C). s.answer) (full U K r c p u f); has = bares 9 }

  acquire_bears : Bears T r.query.subscriber (acquire U K r c).answer
  acquire_bears = by (request_check (toll U K r c)) refl
    where
      by : (n : ℕ) → request_check (toll U K r c) ≡ n → Bears T r.query.subscriber (acquire U K r c).answer
      by zero e = in_slot (payable (toll U K r c) e) (placed U K r.query c)
      by (suc n) e =
          record {
            verdict = bare (request_check (toll U K r c));
            is = ap (λ (s : Step C). s.answer) (refused U K r c (ne_eqb (request_check (toll U K r c)) 0 (λ z. omega arith)));
            has = bares (request_check (toll U K r c));
          }

-- a peek's is a number with zeros, or what a record reports
module _
    {C P R : Type 0} (U : Rule P R) (K : Columns C R) (q : Query P) (c : C) (T : Verdict → Type 0) (bares : (n : ℕ) → T (bare n))
    (reports : (held : R) → T (U.report q.setting q.moment held)) where
  peek_bears : Bears T q.subscriber (peek U K q c).answer
  peek_bears = record { verdict = peek_verdict U K q c; is = peek_answers U K c q; has = by (query_check (gate U K q c)) refl }
    where
      by : (n : ℕ) → query_check (gate U K q c) ≡ n → T (peek_verdict U K q c)
      by zero e = subst T (sym (peek_reported U K c q e)) (reports (held U K q c))
      by (suc n) e =
          subst T (sym (peek_refused U K c q (ne_eqb (query_check (gate U K q c)) 0 (λ z. omega arith)))) (bares (query_check (gate U K q c)))

-- the verdict's zeros are the answer's
module _ {subscriber : ℕ} {x : Numbers} (b : Bears (λ (v : Verdict). ZerosBeside v) subscriber x) where
  number_is : x.number ≡ b.verdict.number
  number_is = ap (λ (x : Numbers). x.number) b.is ∙ answered_number subscriber b.verdict

  zeros_beside : eqb x.number 0 ≡ false → eqb x.number 8 ≡ false → Zeros x.left x.reset x.wait
  zeros_beside not_0 not_8 =
      let zeros =
      b.has (ap (λ (n : ℕ). eqb n 0) (sym number_is) ∙ not_0) (ap (λ (n : ℕ). eqb n 8) (sym number_is) ∙ not_8) in
      record {
        no_left = ap (λ (x : Numbers). x.left) b.is ∙ answered_left subscriber b.verdict ∙ zeros.no_left;
        no_reset = ap (λ (x : Numbers). x.reset) b.is ∙ answered_reset subscriber b.verdict ∙ zeros.no_reset;
        no_wait = ap (λ (x : Numbers). x.wait) b.is ∙ answered_wait subscriber b.verdict ∙ zeros.no_wait;
      }

module _ {C P R : Type 0} (U : Rule P R) (K : Columns C R) where
  pub acquire_zeros :
      BareRefusals U → (r : Request P) (c : C) → eqb (acquire U K r c).answer.number 0 ≡ false → eqb (acquire U K r c).answer.number 8 ≡ false →
      Zeros (acquire U K r c).answer.left (acquire U K r c).answer.reset (acquire U K r c).answer.wait
  acquire_zeros B r c =
      zeros_beside (acquire_bears U K r c (λ (v : Verdict). ZerosBeside v) bare_zeros
      (λ (held : R). B.of_judge r.query.setting r.query.moment held r.cost))

  pub peek_zeros :
      BareRefusals U → (q : Query P) (c : C) → eqb (peek U K q c).answer.number 0 ≡ false → eqb (peek U K q c).answer.number 8 ≡ false →
      Zeros (peek U K q c).answer.left (peek U K q c).answer.reset (peek U K q c).answer.wait
  peek_zeros B q c =
      zeros_beside (peek_bears U K q c (λ (v : Verdict). ZerosBeside v) bare_zeros
      (λ (held : R). B.of_report q.setting q.moment held))

  -- the subscriber named is the one asked for
  pub names_subscriber : (r : Request P) (c : C) → (acquire U K r c).answer.subscriber ≡ r.query.subscriber
  names_subscriber r c =
      let b = acquire_bears U K r c (λ (v : Verdict). v ≡ v) (λ (n : ℕ). refl) (λ (held : R). refl) in
      ap (λ (x : Numbers). x.subscriber) b.is ∙ answered_subscriber r.query.subscriber b.verdict

  pub peek_names_subscriber : (q : Query P) (c : C) → (peek U K q c).answer.subscriber ≡ q.subscriber
  peek_names_subscriber q c =
      ap (λ (x : Numbers). x.subscriber) (peek_answers U K c q) ∙ answered_subscriber q.subscriber (peek_verdict U K q c)

-- of any account
module _ {C P R : Type 0} (A : Account P R) (K : Columns C R) where
  pub account_bare : BareRefusals (rule_of A)
  account_bare = record { of_judge = λ p at held. record_zeros.judge_zeros A p at held; of_report = record_zeros.report_zeros A }

  -- under 0 there is no wait
  pub admitted_waits_not : (r : Request P) (c : C) → (acquire (rule_of A) K r c).answer.number ≡ 0 → (acquire (rule_of A) K r c).answer.wait ≡ 0
  admitted_waits_not r c n =
      let b =
      acquire_bears (rule_of A) K r c (λ (v : Verdict). v.number ≡ 0 → v.wait ≡ 0) (λ (n : ℕ) e. bare_wait n)
      (λ (held : R). record_zeros.admitted_waits_not A r.query.setting r.query.moment held r.cost) in
      let number = ap (λ (x : Numbers). x.number) b.is ∙ answered_number r.query.subscriber b.verdict in
      ap (λ (x : Numbers). x.wait) b.is ∙ answered_wait r.query.subscriber b.verdict ∙ b.has (sym number ∙ n)

  -- and a look has none
  pub peek_waits_not : (q : Query P) (c : C) → (peek (rule_of A) K q c).answer.wait ≡ 0
  peek_waits_not q c =
      let b = peek_bears (rule_of A) K q c (λ (v : Verdict). v.wait ≡ 0) bare_wait (record_zeros.report_waits_not A q.setting q.moment) in
      ap (λ (x : Numbers). x.wait) b.is ∙ answered_wait q.subscriber b.verdict ∙ b.has

-- of a clear
module _ {C R : Type 0} (K : Columns C R) (c : C) where
  zeros_of : (n : ℕ) {x : Numbers} → x ≡ answered 0 (bare n) → (x.subscriber ≡ 0) × Zeros x.left x.reset x.wait
  zeros_of n e = (
    ap (λ (x : Numbers). x.subscriber) e ∙ answered_subscriber 0 (bare n),
    record {
      no_left = ap (λ (x : Numbers). x.left) e ∙ answered_left 0 (bare n) ∙ bare_left n;
      no_reset = ap (λ (x : Numbers). x.reset) e ∙ answered_reset 0 (bare n) ∙ bare_reset n;
      no_wait = ap (λ (x : Numbers). x.wait) e ∙ answered_wait 0 (bare n) ∙ bare_wait n;
    },
  )

  pub clear_zeros :
      ((clear K c).answer.subscriber ≡ 0) × Zeros (clear K c).answer.left (clear K c).answer.reset (clear K c).answer.wait
  clear_zeros = by (slots_ok (K.slots c)) refl
    where
      by :
          (t : Bool) → slots_ok (K.slots c) ≡ t →
          ((clear K c).answer.subscriber ≡ 0) × Zeros (clear K c).answer.left (clear K c).answer.reset (clear K c).answer.wait
      by true e = zeros_of 0 (ap (λ (s : Step C). s.answer) (clear_done K c e))
      by false e = zeros_of 2 (ap (λ (s : Step C). s.answer) (clear_unfit K c e))
