-- What an acquire answers and leaves in each case, whole: a check that applies; the own record; a fresh one in a free slot; no
-- slot. It is said once, of any rule and all columns; and of any account, whose own record may be at fault, admitting or not.
-- Assumes nothing.
use mathlib.Core.Path.{◌≡◌, refl, ap, ◌∙◌}
use mathlib.Core.Bool.{Bool, true, false}
use Prim.Native.Nat.{ℕ}
use lib.Dec.{eqb}
use borrow.Author.Tests.{eq-eqb, ltb-false}
use Rattle.rate.specs.Answer.{answered}
use Rattle.rate.specs.Decision.{Verdict, bare}
use Rattle.rate.specs.Account.{Account, Judged, settled}
use Rattle.rate.specs.Balanced.{Balanced}
use Rattle.rate.proofs.Answers.{bare_number, admitted_number}
use Rattle.rate.proofs.Cases.{judge_faulty, judge_admitted, judge_throttled}
use Rattle.rate.proofs.ClockEnd.{throttled_not_0}
use Rattle.rate.proofs.Fresh.{fresh_admits}
use Rattle.table.specs.Request.{Request}
use Rattle.table.specs.Checks.{request_check}
use Rattle.table.specs.Rule.{Rule, rule_of, fresh_at, fault_at, admits_at, owed_at, spent_at, admitted_at, throttled_at}
use Rattle.table.specs.Slots.{Columns, own, lowest_free}
use Rattle.table.specs.Calls.{Step, Ruling, keep, write, ruled, judge_call, commit, acquire, toll}
use Rattle.table.specs.Passed.{Payable}
use Rattle.table.specs.Places.{Own, Unknown, Vacant, Full}
use Rattle.table.proofs.Cases.{ruled_writes, ruled_keeps, slot_own, slot_new, slot_none, judge_refused, judge_full, judge_at, commit_keep, commit_write, acquire_commits}
use Rattle.table.proofs.Checks.{pays}
use Rattle.table.proofs.Seek.{seek_at, seek_nowhere}

-- an answer, and the columns as they were
abbrev pub stays : {C P : Type 0} → Request P → C → Verdict → Step C
stays r c v = record { answer = answered r.query.subscriber v; after = c }

-- an answer, and one slot overwritten
abbrev pub writes : {C P R : Type 0} → Columns C R → Request P → C → Verdict → ℕ → R → Step C
writes K r c v i held =
    record { answer = answered r.query.subscriber v; after = K.put c i r.query.subscriber r.query.moment held }

module _ {C P R : Type 0} (U : Rule P R) (K : Columns C R) (r : Request P) (c : C) where
  pub acquire_keeps : {v : Verdict} → judge_call U K r c ≡ keep v → acquire U K r c ≡ stays r c v
  acquire_keeps {v} e =
      acquire_commits U K c r ∙ ap (λ (x : Ruling R). commit K r.query c x) e
      ∙ commit_keep K r.query c v

  pub acquire_writes : {v : Verdict} {i : ℕ} {held : R} → judge_call U K r c ≡ write v i held → acquire U K r c ≡ writes K r c v i held
  acquire_writes {v} {i} {held} e =
      acquire_commits U K c r ∙ ap (λ (x : Ruling R). commit K r.query c x) e
      ∙ commit_write K r.query c v i held

  -- numbers 1 to 6 and 11
  pub refused : eqb (request_check (toll U K r c)) 0 ≡ false → acquire U K r c ≡ stays r c (bare (request_check (toll U K r c)))
  refused h = acquire_keeps (judge_refused U K c r h)

  -- number 9
  pub full : Payable (toll U K r c) → Unknown K r.query c → Full U K r.query c → acquire U K r c ≡ stays r c (bare 9)
  unfolding own lowest_free
  full p unknown h =
      acquire_keeps (judge_full U K c r (pays (toll U K r c) p) (slot_none U K c r.query (seek_nowhere _ _ unknown) (seek_nowhere _ _ h)))

  -- judged on the own record
  judged_own :
      {i : ℕ} → Payable (toll U K r c) → Own K r.query c i →
      judge_call U K r c ≡ ruled i (settled (U.judge r.query.setting r.query.moment (K.row c i) r.cost))
  unfolding own
  judged_own p o = judge_at U K c r (pays (toll U K r c) p) (slot_own U K c r.query (seek_at _ _ _ o))

  -- judged on a fresh record
  judged_new :
      {i : ℕ} → Payable (toll U K r c) → Unknown K r.query c → Vacant U K r.query c i →
      judge_call U K r c ≡ ruled i (settled (U.judge r.query.setting r.query.moment (U.fresh r.query.setting r.query.moment) r.cost))
  unfolding own lowest_free
  judged_new p unknown free =
      judge_at U K c r (pays (toll U K r c) p) (slot_new U K c r.query (seek_nowhere _ _ unknown) (seek_at _ _ _ free))

  -- so the answer is the verdict on that record
  answers_judged : (i : ℕ) (j : Judged R) → judge_call U K r c ≡ ruled i (settled j) → (acquire U K r c).answer ≡ answered r.query.subscriber j.verdict
  answers_judged i j e = by (eqb j.verdict.number 0) refl
    where
      by : (t : Bool) → eqb j.verdict.number 0 ≡ t → (acquire U K r c).answer ≡ answered r.query.subscriber j.verdict
      by true n = ap (λ (s : Step C). s.answer) (acquire_writes (e ∙ ruled_writes i j n))
      by false n = ap (λ (s : Step C). s.answer) (acquire_keeps (e ∙ ruled_keeps i j n))

  pub own_answer :
      (i : ℕ) → Payable (toll U K r c) → Own K r.query c i →
      (acquire U K r c).answer ≡ answered r.query.subscriber (U.judge r.query.setting r.query.moment (K.row c i) r.cost).verdict
  own_answer i p o = answers_judged i _ (judged_own p o)

  pub new_answer :
      (i : ℕ) → Payable (toll U K r c) → Unknown K r.query c → Vacant U K r.query c i →
      (acquire U K r c).answer
      ≡ answered r.query.subscriber (U.judge r.query.setting r.query.moment (U.fresh r.query.setting r.query.moment) r.cost).verdict
  new_answer i p u v = answers_judged i _ (judged_new p u v)

keeps_as : {R : Type 0} (i : ℕ) {j : Judged R} (k : Judged R) → j ≡ k → eqb k.verdict.number 0 ≡ false → ruled i (settled j) ≡ keep k.verdict
keeps_as i k e h = ap (λ (x : Judged _). ruled i (settled x)) e ∙ ruled_keeps i k h

writes_as :
    {R : Type 0} (i : ℕ) {j : Judged R} (k : Judged R) → j ≡ k → k.verdict.number ≡ 0 → ruled i (settled j) ≡ write k.verdict i k.after
writes_as i k e h = ap (λ (x : Judged _). ruled i (settled x)) e ∙ ruled_writes i k (eq-eqb _ _ h)

-- with a slot of its own
module _
    {C P R : Type 0} (A : Account P R) (K : Columns C R) (r : Request P) (c : C) (p : Payable (toll (rule_of A) K r c)) (i : ℕ)
    (o : Own K r.query c i) where
  -- the number of its fault, 7
  pub faulty :
      eqb (fault_at A r (K.row c i)) 0 ≡ false → acquire (rule_of A) K r c ≡ stays r c (bare (fault_at A r (K.row c i)))
  faulty s =
      acquire_keeps (rule_of A) K r c
      (judged_own (rule_of A) K r c p o
      ∙ keeps_as i (record { verdict = bare (fault_at A r (K.row c i)); after = K.row c i })
      (judge_faulty A r.query.setting r.query.moment (K.row c i) r.cost s)
      (ap (λ (n : ℕ). eqb n 0) (bare_number (fault_at A r (K.row c i))) ∙ s))

  -- number 8, or 13
  pub waits :
      fault_at A r (K.row c i) ≡ 0 → admits_at A r (K.row c i) ≡ false →
      acquire (rule_of A) K r c ≡ stays r c (throttled_at A r (K.row c i))
  waits s a =
      acquire_keeps (rule_of A) K r c
      (judged_own (rule_of A) K r c p o
      ∙ keeps_as i (record { verdict = throttled_at A r (K.row c i); after = K.row c i })
      (judge_throttled A r.query.setting r.query.moment (K.row c i) r.cost s a)
      (throttled_not_0 (A.plan r.query.setting) r.query.moment (owed_at A r (K.row c i)) r.cost))

  -- number 0
  pub admits :
      fault_at A r (K.row c i) ≡ 0 → admits_at A r (K.row c i) ≡ true →
      acquire (rule_of A) K r c ≡ writes K r c (admitted_at A r (K.row c i)) i (spent_at A r (K.row c i))
  admits s a =
      acquire_writes (rule_of A) K r c
      (judged_own (rule_of A) K r c p o
      ∙ writes_as i (record { verdict = admitted_at A r (K.row c i); after = spent_at A r (K.row c i) })
      (judge_admitted A r.query.setting r.query.moment (K.row c i) r.cost s a)
      (admitted_number (A.plan r.query.setting) r.query.moment (owed_at A r (K.row c i)) r.cost))

-- number 0 without a slot of its own: any cost up to the burst is admitted
module _ {C P R : Type 0} {A : Account P R} (L : Balanced A) (K : Columns C R) (r : Request P) (c : C) (p : Payable (toll (rule_of A) K r c)) where
  pub admits_new :
      (i : ℕ) → Unknown K r.query c → Vacant (rule_of A) K r.query c i →
      acquire (rule_of A) K r c ≡ writes K r c (admitted_at A r (fresh_at A r)) i (spent_at A r (fresh_at A r))
  admits_new i unknown free =
      acquire_writes (rule_of A) K r c
      (judged_new (rule_of A) K r c p unknown free
      ∙ writes_as i (record { verdict = admitted_at A r (fresh_at A r); after = spent_at A r (fresh_at A r) })
      (judge_admitted A r.query.setting r.query.moment (fresh_at A r) r.cost (L.fresh_sound r.query.setting r.query.moment p.asked.plan)
      (fresh_admits L r.query.setting r.query.moment r.cost (ltb-false _ _ p.burst)))
      (admitted_number (A.plan r.query.setting) r.query.moment (owed_at A r (fresh_at A r)) r.cost))
