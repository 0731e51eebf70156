-- The laws of this crate: what holds of its definitions, for all numbers; proofs/Laws shows them. That two engines with the
-- backlog law (`Lawful`) agree over the life of one record is `Agreement` (Life).
use Rattle.std.specs.Prelude.{ℕ, ◌+◌, ◌≤◌, ◌≡◌, true, false, eqb, leb, Some, None, Ok, Err}
use Rattle.ticks.specs.declared.plan.Plan.{Plan}
use Rattle.ticks.specs.declared.units.Millis.{Millis}
use Rattle.ticks.specs.Grains.{price, div_up}
use Rattle.rate.specs.declared.answer.Answer.{Answer}
use Rattle.rate.specs.declared.answer.Outcome.TheVariants.{Admitted, Throttled, Refused}
use Rattle.rate.specs.declared.answer.Reason.{Reason}
use Rattle.rate.specs.declared.answer.Reason.TheVariants.{BadPlan, BadTable, LateMoment, EarlyMoment, NoSubscriber, ZeroCost, CostAboveBurst, CorruptRecord, OtherPlan, NotOnClock, TableFull}
use Rattle.rate.specs.Decision.{Verdict, ZerosBeside, admissible, remaining, reset_at, retry_after, admitted, retry_from, denied, throttled}
use Rattle.rate.specs.Answer.{reason_number, verdict_of, numbers_of, cleared_numbers}
use Rattle.rate.specs.Account.{Account, judge, report}

-- document 01, 'When the gate says no', and document 02, Items 3, 6 and 13: the number of each cause of a refusal
pub record ReasonNumbers : Type 0 where
  pub bad_plan : reason_number BadPlan ≡ 1
  pub bad_table : reason_number BadTable ≡ 2
  pub late_moment : reason_number LateMoment ≡ 3
  pub early_moment : reason_number EarlyMoment ≡ 11
  pub no_subscriber : reason_number NoSubscriber ≡ 4
  pub zero_cost : reason_number ZeroCost ≡ 5
  pub cost_above_burst : reason_number CostAboveBurst ≡ 6
  pub corrupt_record : reason_number CorruptRecord ≡ 7
  pub other_plan : reason_number OtherPlan ≡ 12
  pub not_on_clock : reason_number NotOnClock ≡ 13
  pub table_full : reason_number TableFull ≡ 9

-- .. and of each outcome, with what stands beside it
pub record OutcomeNumbers : Type 0 where
  pub admitted_is : (left : ℕ) (reset : Millis) → verdict_of (Admitted left reset) ≡ record { number = 0; left = left; reset = reset.0; wait = 0 }
  pub throttled_is :
      (left : ℕ) (reset wait : Millis) →
      verdict_of (Throttled left reset wait) ≡ record { number = 8; left = left; reset = reset.0; wait = wait.0 }
  pub refused_is :
      (reason : Reason) → verdict_of (Refused reason) ≡ record { number = reason_number reason; left = 0; reset = 0; wait = 0 }
  -- an answer is its outcome's verdict, for the subscriber that it names
  pub answer_is :
      (a : Answer) (v : Verdict) → verdict_of a.outcome ≡ v →
      numbers_of a ≡ record { number = v.number; subscriber = a.subscriber; left = v.left; reset = v.reset; wait = v.wait }
  -- a clear answers 0 or 2, zeros beside either
  pub done_is : cleared_numbers (Ok tt) ≡ record { number = 0; subscriber = 0; left = 0; reset = 0; wait = 0 }
  pub unfit_is : cleared_numbers (Err BadTable) ≡ record { number = 2; subscriber = 0; left = 0; reset = 0; wait = 0 }

-- document 02, Item 13, of any rule that answers 8: a wait that ends by the clock's last moment is told, and one that ends a
-- millisecond later or more is "not on this clock", which is 13 with zeros
pub record RetryLaws : Type 0 where
  pub ends_within : (at wait : ℕ) → at + wait ≤ 4398046511103 → retry_from at wait ≡ Some (record { 0 = wait })
  pub ends_beyond : (at wait : ℕ) → 4398046511104 ≤ at + wait → retry_from at wait ≡ None
  pub denied_8 :
      (left reset : ℕ) (wait : Millis) → denied left reset (Some wait) ≡ record { number = 8; left = left; reset = reset; wait = wait.0 }
  pub denied_13 : (left reset : ℕ) → denied left reset None ≡ record { number = 13; left = 0; reset = 0; wait = 0 }

-- document 01, 'The decision': what left, reset and wait are worth, of a backlog that a full bucket covers
pub record DecisionLaws (p : Plan) (backlog : ℕ) : Type 0 where
  -- a cost is admitted exactly if it is at most what is left, which is never above B
  pub left_admits : (cost : ℕ) → admissible p backlog cost ≡ leb cost (remaining p backlog)
  pub left_most : remaining p backlog ≤ p.burst
  -- a wait is at least 1, and never above cost×P/N rounded up
  pub wait_positive : (cost : ℕ) → admissible p backlog cost ≡ false → 1 ≤ retry_after p backlog cost
  pub wait_most : (cost : ℕ) → retry_after p backlog cost ≤ div_up (price p cost) p.limit
  -- what is not admitted gets 8, or 13 if the wait runs off the clock
  pub throttled_8 :
      (at cost : ℕ) → at + retry_after p backlog cost ≤ 4398046511103 →
      throttled p at backlog cost
      ≡ record { number = 8; left = remaining p backlog; reset = reset_at p at backlog; wait = retry_after p backlog cost }
  pub throttled_13 :
      (at cost : ℕ) → 4398046511104 ≤ at + retry_after p backlog cost →
      throttled p at backlog cost ≡ record { number = 13; left = 0; reset = 0; wait = 0 }
  -- the reset is the end of the wait for a whole burst
  pub reset_is_burst_wait : (at : ℕ) → reset_at p at backlog ≡ at + retry_after p backlog p.burst

-- demand 1, of any account: what stands beside the number of an ask and of a look on one record
pub record VerdictLaws {P R : Type 0} (A : Account P R) (p : P) (at : ℕ) (r : R) : Type 0 where
  pub judge_zeros : (cost : ℕ) → ZerosBeside (judge A p at r cost).verdict
  pub report_zeros : ZerosBeside (report A p at r)
  -- under 0 there is no wait, and a look has none
  pub admitted_waits_not : (cost : ℕ) → (judge A p at r cost).verdict.number ≡ 0 → (judge A p at r cost).verdict.wait ≡ 0
  pub report_waits_not : (report A p at r).wait ≡ 0

-- demand 2, of any account with the backlog law (`Balanced`), with a setting within its limits and a record without fault
pub record RecordLaws {P R : Type 0} (A : Account P R) (p : P) (at : ℕ) (r : R) : Type 0 where
  -- with the record untouched, the same ask k ms later is admitted exactly if the wait is at most k
  pub least_wait :
      (cost : ℕ) → cost ≤ (A.plan p).burst → (k : ℕ) →
      A.admits p (at + k) r cost ≡ leb (retry_after (A.plan p) (A.backlog p at r) cost) k
  -- .. and until then its wait ends at the same moment
  pub wait_ends :
      (cost : ℕ) → cost ≤ (A.plan p).burst → (m : ℕ) → at ≤ m → m ≤ at + retry_after (A.plan p) (A.backlog p at r) cost →
      m + retry_after (A.plan p) (A.backlog p m r) cost ≡ at + retry_after (A.plan p) (A.backlog p at r) cost
  -- .. at any moment from the call on, a whole burst is admitted and nothing is owed exactly if the reset has come
  pub burst_from_reset :
      (m : ℕ) → at ≤ m → A.admits p m r (A.plan p).burst ≡ leb (reset_at (A.plan p) at (A.backlog p at r)) m
  pub drained_from_reset : (m : ℕ) → at ≤ m → eqb (A.backlog p m r) 0 ≡ leb (reset_at (A.plan p) at (A.backlog p at r)) m
  -- a cost is admitted exactly if it is at most what is left
  pub admits_left : (cost : ℕ) → A.admits p at r cost ≡ leb cost (remaining (A.plan p) (A.backlog p at r))
  -- a look is an ask that costs nothing
  pub look_is_free_ask : report A p at r ≡ (judge A p at r 0).verdict
  -- .. and shows, after an ask that was admitted, what that reported
  pub look_after :
      (cost : ℕ) → A.admits p at r cost ≡ true →
      report A p at (A.spend p at r cost) ≡ admitted (A.plan p) at (A.backlog p at r) cost

-- .. and with no record: any cost up to B is admitted, and a look shows B left and the moment itself
pub record FreshLaws {P R : Type 0} (A : Account P R) (p : P) (at : ℕ) : Type 0 where
  pub fresh_admits : (cost : ℕ) → cost ≤ (A.plan p).burst → A.admits p at (A.fresh p at) cost ≡ true
  pub fresh_report : report A p at (A.fresh p at) ≡ record { number = 0; left = (A.plan p).burst; reset = at; wait = 0 }
