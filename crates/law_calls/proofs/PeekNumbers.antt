-- Exactly when a peek gets each of its numbers, for any account; and a clear, over any columns.
-- Assumes nothing.
use mathlib.Core.Path.{◌≡◌, refl, sym, ap, subst, ◌∙◌}
use mathlib.Core.Bool.{true, false}
use Prim.Native.Nat.{ℕ}
use lib.Dec.{eqb}
use Rattle.rate.specs.Decision.{Verdict, bare}
use Rattle.rate.specs.Account.{Account, report}
use Rattle.rate.specs.Balanced.{Balanced, Fault, fine, corrupt, elsewhere}
use Rattle.rate.proofs.Answers.{answered_number, bare_number, reported_number}
use Rattle.rate.proofs.Cases.{report_faulty, report_sound}
use Rattle.table.specs.Request.{Query}
use Rattle.table.specs.Checks.{slots_ok}
use Rattle.table.specs.Rule.{rule_of}
use Rattle.table.specs.Slots.{Columns}
use Rattle.table.specs.Calls.{Step, peek, clear, gate}
use Rattle.table.specs.Passed.{Asked}
use Rattle.table.specs.Places.{Own}
use Rattle.table.proofs.Cases.{clear_done, clear_unfit}
use Rattle.law_calls.specs.PeekGrounds.{PeekGround, stopped, corrupt_record, other_plan, known, unknown}
use Rattle.law_calls.specs.PeekCauses as rule
use Rattle.law_calls.specs.PeekCauses.{PeekCause}
use Rattle.law_calls.proofs.Cleared.{cleared_table}
use Rattle.law_calls.proofs.PeekCauses.{peek_causes, peek_caused}

-- why a look gets its number
module _ {C P R : Type 0} (A : Account P R) (K : Columns C R) (q : Query P) (c : C) where
  gets :
      (h : R) (n : ℕ) → eqb n 0 ≡ false → A.fault q.setting q.moment h ≡ n → (report A q.setting q.moment h).number ≡ n
  gets h n some s =
      ap (λ (v : Verdict). v.number) (report_faulty A q.setting q.moment h (ap (λ (n : ℕ). eqb n 0) s ∙ some)) ∙ bare_number _ ∙ s

  gets_0 : (h : R) → A.fault q.setting q.moment h ≡ 0 → (report A q.setting q.moment h).number ≡ 0
  gets_0 h s = ap (λ (v : Verdict). v.number) (report_sound A q.setting q.moment h s) ∙ reported_number _ _ _

  module _ (L : Balanced A) where
    fresh_gets_0 :
        Asked (gate (rule_of A) K q c) → (report A q.setting q.moment (A.fresh q.setting q.moment)).number ≡ 0
    fresh_gets_0 a = gets_0 (A.fresh q.setting q.moment) (L.fresh_sound q.setting q.moment a.plan)

    cause : {n : ℕ} → PeekGround A K q c n → PeekCause (rule_of A) K q c n
    cause (stopped s) = rule.stopped s
    cause (corrupt_record a i o s) = rule.on_own a i o (gets (K.row c i) 7 refl s)
    cause (other_plan a i o s) = rule.on_own a i o (gets (K.row c i) 12 refl s)
    cause (known a i o s) = rule.on_own a i o (gets_0 (K.row c i) s)
    cause (unknown a u) = rule.on_fresh a u (fresh_gets_0 a)

    on_record :
        {n : ℕ} → Asked (gate (rule_of A) K q c) → (i : ℕ) → Own K q c i → (report A q.setting q.moment (K.row c i)).number ≡ n →
        PeekGround A K q c n
    on_record {n} a i o e = by (L.faults q.setting q.moment (K.row c i))
      where
        got : {k : ℕ} → PeekGround A K q c k → (report A q.setting q.moment (K.row c i)).number ≡ k → PeekGround A K q c n
        got g is = subst (λ (k : ℕ). PeekGround A K q c k) (sym is ∙ e) g

        by : Fault (A.fault q.setting q.moment (K.row c i)) → PeekGround A K q c n
        by (corrupt s) = got (corrupt_record a i o s) (gets (K.row c i) 7 refl s)
        by (elsewhere s) = got (other_plan a i o s) (gets (K.row c i) 12 refl s)
        by (fine s) = got (known a i o s) (gets_0 (K.row c i) s)

    ground : {n : ℕ} → PeekCause (rule_of A) K q c n → PeekGround A K q c n
    ground (rule.stopped s) = stopped s
    ground (rule.on_own a i o e) = on_record a i o e
    ground (rule.on_fresh a u e) = subst (λ (k : ℕ). PeekGround A K q c k) (sym (fresh_gets_0 a) ∙ e) (unknown a u)

    pub peek_decides : {n : ℕ} → PeekGround A K q c n → (peek (rule_of A) K q c).answer.number ≡ n
    peek_decides g = peek_causes (rule_of A) K q c (cause g)

    pub peek_grounds : {n : ℕ} → (peek (rule_of A) K q c).answer.number ≡ n → PeekGround A K q c n
    peek_grounds e = ground (peek_caused (rule_of A) K q c e)

-- a clear gets 0 exactly if the columns are a table, and otherwise 2
module _ {C R : Type 0} (K : Columns C R) (c : C) where
  pub clear_0 :
      ((clear K c).answer.number ≡ 0 → slots_ok (K.slots c) ≡ true)
      × (slots_ok (K.slots c) ≡ true → (clear K c).answer.number ≡ 0)
  clear_0 =
      (cleared_table K c, λ t. ap (λ (s : Step C). s.answer.number) (clear_done K c t) ∙ answered_number 0 (bare 0) ∙ bare_number 0)

  pub clear_2 : slots_ok (K.slots c) ≡ false → (clear K c).answer.number ≡ 2
  clear_2 t = ap (λ (s : Step C). s.answer.number) (clear_unfit K c t) ∙ answered_number 0 (bare 2) ∙ bare_number 2
