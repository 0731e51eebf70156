-- Exactly when each number is given, for any account: what a record is judged to get depends on its fault and its backlog alone.
-- Assumes nothing.
use mathlib.Core.Path.{◌≡◌, refl, sym, ap, subst, ◌∙◌}
use mathlib.Core.Logic.{◌⊎◌, inl, inr}
use mathlib.Core.Bool.{Bool, true, false}
use Prim.Native.Nat.{ℕ, ◌+◌}
use lib.Dec.{eqb}
use borrow.Author.Tests.{ltb-false}
use Rattle.ticks.specs.Grains.{on_clock}
use Rattle.rate.specs.Decision.{Verdict}
use Rattle.rate.specs.Account.{Account, Judged}
use Rattle.rate.specs.Balanced.{Balanced, Fault, fine, corrupt, elsewhere}
use Rattle.rate.proofs.Answers.{bare_number, admitted_number}
use Rattle.rate.proofs.ClockEnd.{throttled_8, throttled_13}
use Rattle.rate.proofs.Cases.{judge_faulty, judge_admitted, judge_throttled}
use Rattle.rate.proofs.Fresh.{fresh_admits}
use Rattle.table.specs.Request.{Request}
use Rattle.table.specs.Rule.{rule_of, fault_at, admits_at, owed_at, wait_at, fresh_at}
use Rattle.table.specs.Slots.{Columns}
use Rattle.table.specs.Calls.{acquire, toll}
use Rattle.table.specs.Passed.{Payable}
use Rattle.table.specs.Places.{Own}
use Rattle.law_calls.specs.Grounds.{Ground, stopped, zero_cost, cost_above_burst, corrupt_record, other_plan, throttled, not_on_clock, table_full, admitted, admitted_new}
use Rattle.law_calls.specs.Causes as rule
use Rattle.law_calls.specs.Causes.{Cause, verdict_on}
use Rattle.law_calls.proofs.Causes.{causes, caused}

module _ {C P R : Type 0} (A : Account P R) (K : Columns C R) (r : Request P) (c : C) where
  -- the numbers that a record is judged to get
  module _ (held : R) where
    numbered : {j : Judged R} {n : ℕ} → j.verdict.number ≡ n → {k : Judged R} → k ≡ j → k.verdict.number ≡ n
    numbered n e = ap (λ (j : Judged R). j.verdict.number) e ∙ n

    gets : (n : ℕ) → eqb n 0 ≡ false → fault_at A r held ≡ n → (verdict_on (rule_of A) r held).number ≡ n
    gets n some s =
        numbered (bare_number _ ∙ s) (judge_faulty A r.query.setting r.query.moment held r.cost (ap (λ (n : ℕ). eqb n 0) s ∙ some))

    gets_8 :
        fault_at A r held ≡ 0 → admits_at A r held ≡ false → on_clock (r.query.moment + wait_at A r held) ≡ true →
        (verdict_on (rule_of A) r held).number ≡ 8
    gets_8 s a e =
        numbered (ap (λ (v : Verdict). v.number) (throttled_8 (A.plan r.query.setting) r.query.moment (owed_at A r held) r.cost e))
        (judge_throttled A r.query.setting r.query.moment held r.cost s a)

    gets_13 :
        fault_at A r held ≡ 0 → admits_at A r held ≡ false → on_clock (r.query.moment + wait_at A r held) ≡ false →
        (verdict_on (rule_of A) r held).number ≡ 13
    gets_13 s a e =
        numbered
        (ap (λ (v : Verdict). v.number) (throttled_13 (A.plan r.query.setting) r.query.moment (owed_at A r held) r.cost e)
        ∙ bare_number 13)
        (judge_throttled A r.query.setting r.query.moment held r.cost s a)

    gets_0 : fault_at A r held ≡ 0 → admits_at A r held ≡ true → (verdict_on (rule_of A) r held).number ≡ 0
    gets_0 s a = numbered (admitted_number _ _ _ _) (judge_admitted A r.query.setting r.query.moment held r.cost s a)

  module _ (L : Balanced A) where
    -- a fresh record is admitted
    fresh_gets_0 : Payable (toll (rule_of A) K r c) → (verdict_on (rule_of A) r (fresh_at A r)).number ≡ 0
    fresh_gets_0 p =
        gets_0 (fresh_at A r) (L.fresh_sound r.query.setting r.query.moment p.asked.plan)
        (fresh_admits L r.query.setting r.query.moment r.cost (ltb-false _ _ p.burst))

    cause : {n : ℕ} → Ground A K r c n → Cause (rule_of A) K r c n
    cause (stopped s) = rule.stopped s
    cause (zero_cost a z) = rule.zero_cost a z
    cause (cost_above_burst a z b) = rule.cost_above_most a z b
    cause (corrupt_record p i o s) = rule.on_own p i o (gets (K.row c i) 7 refl s)
    cause (other_plan p i o s) = rule.on_own p i o (gets (K.row c i) 12 refl s)
    cause (throttled p i o s a e) = rule.on_own p i o (gets_8 (K.row c i) s a e)
    cause (not_on_clock p i o s a e) = rule.on_own p i o (gets_13 (K.row c i) s a e)
    cause (table_full p u f) = rule.table_full p u f
    cause (admitted p i o s a) = rule.on_own p i o (gets_0 (K.row c i) s a)
    cause (admitted_new p i u v) = rule.on_fresh p i u v (fresh_gets_0 p)

    on_record :
        {n : ℕ} → Payable (toll (rule_of A) K r c) → (i : ℕ) → Own K r.query c i → (verdict_on (rule_of A) r (K.row c i)).number ≡ n →
        Ground A K r c n
    on_record {n} p i o e =
        by (L.faults r.query.setting r.query.moment (K.row c i)) (admits_at A r (K.row c i)) refl
        (on_clock (r.query.moment + wait_at A r (K.row c i))) refl
      where
        got : {k : ℕ} → Ground A K r c k → (verdict_on (rule_of A) r (K.row c i)).number ≡ k → Ground A K r c n
        got g gets = subst (λ (k : ℕ). Ground A K r c k) (sym gets ∙ e) g

        by :
            Fault (fault_at A r (K.row c i)) → (a : Bool) → admits_at A r (K.row c i) ≡ a → (t : Bool) →
            on_clock (r.query.moment + wait_at A r (K.row c i)) ≡ t → Ground A K r c n
        by (corrupt s) a ea t et = got (corrupt_record p i o s) (gets (K.row c i) 7 refl s)
        by (elsewhere s) a ea t et = got (other_plan p i o s) (gets (K.row c i) 12 refl s)
        by (fine s) true ea t et = got (admitted p i o s ea) (gets_0 (K.row c i) s ea)
        by (fine s) false ea true et = got (throttled p i o s ea et) (gets_8 (K.row c i) s ea et)
        by (fine s) false ea false et = got (not_on_clock p i o s ea et) (gets_13 (K.row c i) s ea et)

    ground : {n : ℕ} → Cause (rule_of A) K r c n → Ground A K r c n
    ground (rule.stopped s) = stopped s
    ground (rule.zero_cost a z) = zero_cost a z
    ground (rule.cost_above_most a z b) = cost_above_burst a z b
    ground (rule.on_own p i o e) = on_record p i o e
    ground (rule.on_fresh p i u v e) = subst (λ (k : ℕ). Ground A K r c k) (sym (fresh_gets_0 p) ∙ e) (admitted_new p i u v)
    ground (rule.table_full p u f) = table_full p u f

    pub decides : {n : ℕ} → Ground A K r c n → (acquire (rule_of A) K r c).answer.number ≡ n
    decides g = causes (rule_of A) K r c (cause g)

    pub grounds : {n : ℕ} → (acquire (rule_of A) K r c).answer.number ≡ n → Ground A K r c n
    grounds e = ground (caused (rule_of A) K r c e)

    -- what is not admitted must wait, or its wait runs off the clock
    pub denies :
        Payable (toll (rule_of A) K r c) → (i : ℕ) → Own K r.query c i → fault_at A r (K.row c i) ≡ 0 → admits_at A r (K.row c i) ≡ false →
        ((acquire (rule_of A) K r c).answer.number ≡ 8) ⊎ ((acquire (rule_of A) K r c).answer.number ≡ 13)
    denies p i o s a = by (on_clock (r.query.moment + wait_at A r (K.row c i))) refl
      where
        by :
            (t : Bool) → on_clock (r.query.moment + wait_at A r (K.row c i)) ≡ t →
            ((acquire (rule_of A) K r c).answer.number ≡ 8) ⊎ ((acquire (rule_of A) K r c).answer.number ≡ 13)
        by true e = inl (decides (throttled p i o s a e))
        by false e = inr (decides (not_on_clock p i o s a e))
