-- Document 01, 'When the gate says no': the number and the values of each case of an answer.
use Rattle.std.specs.Prelude.{ℕ, Result, Ok, Err}
use Rattle.rate.specs.declared.answer.Answer.{Answer}
use Rattle.rate.specs.declared.answer.Numbers.{Numbers}
use Rattle.rate.specs.declared.answer.Outcome.{Outcome}
use Rattle.rate.specs.declared.answer.Outcome.TheVariants.{Admitted, Throttled, Refused}
use Rattle.rate.specs.declared.answer.Reason.{Reason}
use Rattle.rate.specs.declared.answer.Reason.TheVariants.{BadPlan, BadTable, LateMoment, EarlyMoment, NoSubscriber, ZeroCost, CostAboveBurst, CorruptRecord, OtherPlan, NotOnClock, TableFull}
use Rattle.rate.specs.Decision.{Verdict, bare}

-- the number of each cause of a refusal
unfoldable pub reason_number : Reason → ℕ
reason_number BadPlan = 1
reason_number BadTable = 2
reason_number LateMoment = 3
reason_number EarlyMoment = 11
reason_number NoSubscriber = 4
reason_number ZeroCost = 5
reason_number CostAboveBurst = 6
reason_number CorruptRecord = 7
reason_number OtherPlan = 12
reason_number NotOnClock = 13
reason_number TableFull = 9

-- number, left, reset and wait of an outcome
unfoldable pub verdict_of : Outcome → Verdict
verdict_of (Admitted remaining reset) = record { number = 0; left = remaining; reset = reset.0; wait = 0 }
verdict_of (Throttled remaining reset wait) = record { number = 8; left = remaining; reset = reset.0; wait = wait.0 }
verdict_of (Refused reason) = bare (reason_number reason)

-- a verdict with the subscriber that it is for: document 01's five numbers
unfoldable pub answered : ℕ → Verdict → Numbers
answered subscriber v =
    record { number = v.number; subscriber = subscriber; left = v.left; reset = v.reset; wait = v.wait }

-- the five numbers of an answer
unfoldable pub numbers_of : Answer → Numbers
numbers_of a = answered a.subscriber (verdict_of a.outcome)

-- the five numbers of a clear: 0 or its cause's number, and zeros
unfoldable pub cleared_numbers : Result (Unit {0}) Reason → Numbers
cleared_numbers (Ok done) = answered 0 (bare 0)
cleared_numbers (Err reason) = answered 0 (bare (reason_number reason))
