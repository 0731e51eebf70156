-- The laws of the calls: what a host may rely on in any call, on any table. First what holds of any rule, over columns that keep
-- what is written (`Stored`, table); then what holds besides of any account with the backlog law (`Balanced`, rate). proofs/Laws
-- shows them, and proofs/Calls of `law_history` that they hold of both engines.
use Rattle.std.specs.Prelude.{ℕ, ◌<◌, ◌≡◌, ◌⊎◌, true, false, ◌&&◌, ◌||◌, eqb, ltb, get_or}
use Rattle.ticks.specs.Grains.{on_clock}
use Rattle.rate.specs.Decision.{Zeros, bare}
use Rattle.rate.specs.Account.{Account, judge, guard}
use Rattle.table.specs.Request.{Query, Request}
use Rattle.table.specs.Calls.{held, peek_verdict, acquire, peek, clear, gate}
use Rattle.table.specs.Checks.{slots_ok, query_check}
use Rattle.table.specs.Places.{Admission}
use Rattle.table.specs.Rule.{Rule, rule_of}
use Rattle.table.specs.Slots.{Columns, carries, vacant}
use Rattle.law_calls.specs.Causes.{Cause}
use Rattle.law_calls.specs.Grounds.{Ground}
use Rattle.law_calls.specs.Left.{LeftNow}
use Rattle.law_calls.specs.Newest.{Early, Written, BeyondClock, Locked}
use Rattle.law_calls.specs.Peek.{SameReport}
use Rattle.law_calls.specs.PeekCauses.{PeekCause}
use Rattle.law_calls.specs.PeekGrounds.{PeekGround}
use Rattle.law_calls.specs.Refusal.{Refusal}
use Rattle.law_calls.specs.Reset.{FirstDrained, ResetMoment}
use Rattle.law_calls.specs.Wait.{LeastWait, NeverServed}

-- of a request on any table, by any rule
pub record RuleAcquireLaws {C P R : Type 0} (U : Rule P R) (K : Columns C R) (r : Request P) (c : C) : Type 0 where
  -- the number is n exactly if there is a cause of n
  pub exactly_when :
      (n : ℕ) →
      ((acquire U K r c).answer.number ≡ n → Cause U K r c n) × (Cause U K r c n → (acquire U K r c).answer.number ≡ n)
  -- a number other than 0 leaves everything as it was
  pub denied_changes_nothing : eqb (acquire U K r c).answer.number 0 ≡ false → (acquire U K r c).after ≡ c
  -- number 0 overwrites the own slot, or else the lowest free one
  pub admission_writes_one : (acquire U K r c).answer.number ≡ 0 → Admission U K r c
  -- and leaves every other slot as it was
  pub other_slots :
      (a : Admission U K r c) (j : ℕ) → (j ≡ a.place → ⊥) →
      (get_or (K.ids (acquire U K r c).after) j 0 ≡ get_or (K.ids c) j 0) × (K.row (acquire U K r c).after j ≡ K.row c j)
  -- the slot that it wrote holds the subscriber and the new record
  pub taken_slot :
      (a : Admission U K r c) →
      (get_or (K.ids (acquire U K r c).after) a.place 0 ≡ r.query.subscriber) × (K.row (acquire U K r c).after a.place ≡ a.held)
  -- document 02, Item 6: before the newest moment it gets 11 with zeros, and changes nothing
  pub early_refused : Early U K r.query c → Refusal 11 r.query.subscriber c (acquire U K r c)
  -- the subscriber named is the one asked for, in refusals too
  pub names_subscriber : (acquire U K r c).answer.subscriber ≡ r.query.subscriber

pub record RuleLaws {C P R : Type 0} (U : Rule P R) (K : Columns C R) : Type 0 where
  pub of_acquire : (r : Request P) (c : C) → RuleAcquireLaws U K r c
  -- a look gets n exactly if there is a cause of n
  pub peek_exactly_when :
      (q : Query P) (c : C) (n : ℕ) →
      ((peek U K q c).answer.number ≡ n → PeekCause U K q c n)
      × (PeekCause U K q c n → (peek U K q c).answer.number ≡ n)
  -- and leaves everything as it was
  pub peek_keeps : (q : Query P) (c : C) → (peek U K q c).after ≡ c
  -- before the newest moment it gets 11 with zeros
  pub peek_early_refused : (q : Query P) (c : C) → Early U K q c → Refusal 11 q.subscriber c (peek U K q c)
  -- the subscriber named is the one asked for
  pub peek_names_subscriber : (q : Query P) (c : C) → (peek U K q c).answer.subscriber ≡ q.subscriber
  -- a clear gets 0 exactly if the columns are a table
  pub clear_0 :
      (c : C) →
      ((clear K c).answer.number ≡ 0 → slots_ok (K.slots c) ≡ true) × (slots_ok (K.slots c) ≡ true → (clear K c).answer.number ≡ 0)
  -- and then every column is all zeros
  pub cleared_zeros : (c : C) → (clear K c).answer.number ≡ 0 → (clear K c).after ≡ K.zeros c
  -- otherwise it gets 2
  pub clear_2 : (c : C) → slots_ok (K.slots c) ≡ false → (clear K c).answer.number ≡ 2
  -- and everything is as it was
  pub unfit_kept : (c : C) → slots_ok (K.slots c) ≡ false → (clear K c).after ≡ c
  -- it has zeros beside either number
  pub clear_zeros :
      (c : C) →
      ((clear K c).answer.subscriber ≡ 0) × Zeros (clear K c).answer.left (clear K c).answer.reset (clear K c).answer.wait
  -- an admission and a clear write the newest moment, and nothing else does
  pub newest_written : Written U K
  -- one beyond the clock's limit gives 11 at every moment within it, until a clear
  pub newest_beyond : (c : C) → BeyondClock U K c → Locked U K c

-- demand 1, of any rule whose verdicts have it (`BareRefusals`, table): a number other than 0 and 8 has zeros beside it
pub record RefusalLaws {C P R : Type 0} (U : Rule P R) (K : Columns C R) : Type 0 where
  pub acquire_zeros :
      (r : Request P) (c : C) → eqb (acquire U K r c).answer.number 0 ≡ false → eqb (acquire U K r c).answer.number 8 ≡ false →
      Zeros (acquire U K r c).answer.left (acquire U K r c).answer.reset (acquire U K r c).answer.wait
  pub peek_zeros :
      (q : Query P) (c : C) → eqb (peek U K q c).answer.number 0 ≡ false → eqb (peek U K q c).answer.number 8 ≡ false →
      Zeros (peek U K q c).answer.left (peek U K q c).answer.reset (peek U K q c).answer.wait

-- of a request on any table, by any account
pub record AcquireLaws {C P R : Type 0} (A : Account P R) (K : Columns C R) (r : Request P) (c : C) : Type 0 where
  -- the number is n exactly if there is the ground for n
  pub exactly_when :
      (n : ℕ) →
      ((acquire (rule_of A) K r c).answer.number ≡ n → Ground A K r c n)
      × (Ground A K r c n → (acquire (rule_of A) K r c).answer.number ≡ n)
  -- the number is 11 exactly if the moment is before the newest, and checks 1 to 3 pass
  pub number_11 :
      ((acquire (rule_of A) K r c).answer.number ≡ 11 → Early (rule_of A) K r.query c)
      × (Early (rule_of A) K r.query c → (acquire (rule_of A) K r c).answer.number ≡ 11)
  -- under 0 there is no wait
  pub admitted_waits_not : (acquire (rule_of A) K r c).answer.number ≡ 0 → (acquire (rule_of A) K r c).answer.wait ≡ 0
  -- demand 2: what is left would be admitted now, and no more
  pub left_now :
      ((acquire (rule_of A) K r c).answer.number ≡ 0) ⊎ ((acquire (rule_of A) K r c).answer.number ≡ 8) →
      LeftNow A K r.query (acquire (rule_of A) K r c).after (acquire (rule_of A) K r c).answer.left
  -- demand 2: the wait is the least
  pub least_wait :
      (acquire (rule_of A) K r c).answer.number ≡ 8 → LeastWait A K r c (acquire (rule_of A) K r c).answer.wait
  -- document 02, Item 13: under 13 no moment of the clock, from the call on, admits it
  pub never_served : (acquire (rule_of A) K r c).answer.number ≡ 13 → NeverServed A K r c
  -- demand 2 (document 02, Item 2): the reset is the first moment at which nothing is owed and the whole burst is admitted
  pub reset_moment :
      ((acquire (rule_of A) K r c).answer.number ≡ 0) ⊎ ((acquire (rule_of A) K r c).answer.number ≡ 8) →
      ResetMoment A K r.query (acquire (rule_of A) K r c).after (acquire (rule_of A) K r c).answer.reset
  -- demand 2: any cost up to B is admitted on a cleared table, at any moment within the clock's limit
  pub cleared_admits :
      (clear K c).answer.number ≡ 0 → A.ok r.query.setting ≡ true → on_clock r.query.moment ≡ true →
      eqb r.query.subscriber 0 ≡ false → eqb r.cost 0 ≡ false → ltb (A.plan r.query.setting).burst r.cost ≡ false →
      (acquire (rule_of A) K r (clear K c).after).answer.number ≡ 0
  -- a peek shows what the acquire before it reported
  pub peek_after_admission :
      (acquire (rule_of A) K r c).answer.number ≡ 0 →
      (peek (rule_of A) K r.query (acquire (rule_of A) K r c).after).answer ≡ (acquire (rule_of A) K r c).answer
  pub peek_of_denied : (acquire (rule_of A) K r c).answer.number ≡ 8 → SameReport A K r c

-- of a look at any table, by any account
pub record PeekLaws {C P R : Type 0} (A : Account P R) (K : Columns C R) (q : Query P) (c : C) : Type 0 where
  -- the number is n exactly if there is the ground for n
  pub exactly_when :
      (n : ℕ) →
      ((peek (rule_of A) K q c).answer.number ≡ n → PeekGround A K q c n)
      × (PeekGround A K q c n → (peek (rule_of A) K q c).answer.number ≡ n)
  -- 11 exactly if the moment is before the newest, and checks 1 to 3 pass
  pub number_11 :
      ((peek (rule_of A) K q c).answer.number ≡ 11 → Early (rule_of A) K q c)
      × (Early (rule_of A) K q c → (peek (rule_of A) K q c).answer.number ≡ 11)
  -- a peek is answered as an acquire of cost 0 is judged
  pub is_free_acquire :
      peek_verdict (rule_of A) K q c
      ≡ guard bare (query_check (gate (rule_of A) K q c)) (judge A q.setting q.moment (held (rule_of A) K q c) 0).verdict
  -- there is never a wait
  pub waits_not : (peek (rule_of A) K q c).answer.wait ≡ 0
  -- what is left would be admitted now, and no more, if the subscriber has a slot or one is free
  pub left_now :
      (i : ℕ) → i < K.slots c →
      (carries (K.ids c) q.subscriber i ≡ true) ⊎ (vacant (rule_of A) K q.setting q.moment c i ≡ true) →
      (peek (rule_of A) K q c).answer.number ≡ 0 → LeftNow A K q c (peek (rule_of A) K q c).answer.left
  -- the reset is the first moment at which nothing is owed
  pub first_drained :
      (peek (rule_of A) K q c).answer.number ≡ 0 → FirstDrained A K q c (peek (rule_of A) K q c).answer.reset
  -- .. and, of a subscriber with a slot, at which the whole burst is admitted
  pub reset_moment :
      (i : ℕ) → i < K.slots c → carries (K.ids c) q.subscriber i ≡ true → (peek (rule_of A) K q c).answer.number ≡ 0 →
      ResetMoment A K q c (peek (rule_of A) K q c).answer.reset
  -- a slot is free if it is empty or owes nothing
  pub vacant_owes_nothing :
      (i : ℕ) →
      vacant (rule_of A) K q.setting q.moment c i
      ≡ (carries (K.ids c) 0 i
      || (eqb (A.fault q.setting q.moment (K.row c i)) 0 && eqb (A.backlog q.setting q.moment (K.row c i)) 0))

pub record CallLaws {C P R : Type 0} (A : Account P R) (K : Columns C R) : Type 0 where
  pub of_rule : RuleLaws (rule_of A) K
  pub of_refusals : RefusalLaws (rule_of A) K
  pub of_acquire : (r : Request P) (c : C) → AcquireLaws A K r c
  pub of_peek : (q : Query P) (c : C) → PeekLaws A K q c
