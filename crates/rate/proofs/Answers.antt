-- The numbers of the answers: of each cause of a refusal, none of which is 0, of an answer, and of a clear.
-- Assumes nothing.
use mathlib.Core.Path.{◌≡◌, refl, ap, ◌∙◌}
use mathlib.Core.Bool.{false}
use lib.Dec.{eqb}
use Rattle.std.specs.Prelude.{Ok, Err}
use Prim.Native.Nat.{ℕ}
use Rattle.ticks.specs.declared.plan.Plan.{Plan}
use Rattle.ticks.specs.declared.units.Millis.{Millis}
use Rattle.rate.specs.declared.answer.Answer.{Answer}
use Rattle.rate.specs.declared.answer.Outcome.{Outcome}
use Rattle.rate.specs.declared.answer.Outcome.TheVariants.{Admitted, Throttled, Refused}
use Rattle.rate.specs.declared.answer.Reason.{Reason}
use Rattle.rate.specs.declared.answer.Reason.TheVariants.{BadPlan, BadTable, LateMoment, EarlyMoment, NoSubscriber, ZeroCost, CostAboveBurst, CorruptRecord, OtherPlan, NotOnClock, TableFull}
use Rattle.rate.specs.Decision.{Verdict, bare, reported, admitted, remaining, reset_at}
use Rattle.rate.specs.Answer.{reason_number, verdict_of, answered, numbers_of, cleared_numbers}

pub bad_plan : reason_number BadPlan ≡ 1
unfolding reason_number
bad_plan = refl

pub bad_table : reason_number BadTable ≡ 2
unfolding reason_number
bad_table = refl

pub late_moment : reason_number LateMoment ≡ 3
unfolding reason_number
late_moment = refl

pub early_moment : reason_number EarlyMoment ≡ 11
unfolding reason_number
early_moment = refl

pub no_subscriber : reason_number NoSubscriber ≡ 4
unfolding reason_number
no_subscriber = refl

pub zero_cost : reason_number ZeroCost ≡ 5
unfolding reason_number
zero_cost = refl

pub cost_above_burst : reason_number CostAboveBurst ≡ 6
unfolding reason_number
cost_above_burst = refl

pub corrupt_record : reason_number CorruptRecord ≡ 7
unfolding reason_number
corrupt_record = refl

pub other_plan : reason_number OtherPlan ≡ 12
unfolding reason_number
other_plan = refl

pub not_on_clock : reason_number NotOnClock ≡ 13
unfolding reason_number
not_on_clock = refl

pub table_full : reason_number TableFull ≡ 9
unfolding reason_number
table_full = refl

-- a refusal is not number 0
pub refuses : (reason : Reason) → eqb (reason_number reason) 0 ≡ false
unfolding reason_number
refuses BadPlan = refl
refuses BadTable = refl
refuses LateMoment = refl
refuses EarlyMoment = refl
refuses NoSubscriber = refl
refuses ZeroCost = refl
refuses CostAboveBurst = refl
refuses CorruptRecord = refl
refuses OtherPlan = refl
refuses NotOnClock = refl
refuses TableFull = refl

-- each outcome's numbers
pub admitted_is : (left : ℕ) (reset : Millis) → verdict_of (Admitted left reset) ≡ record { number = 0; left = left; reset = reset.0; wait = 0 }
unfolding verdict_of
admitted_is left reset = refl

pub throttled_is :
    (left : ℕ) (reset wait : Millis) →
    verdict_of (Throttled left reset wait) ≡ record { number = 8; left = left; reset = reset.0; wait = wait.0 }
unfolding verdict_of
throttled_is left reset wait = refl

pub refused_is :
    (reason : Reason) → verdict_of (Refused reason) ≡ record { number = reason_number reason; left = 0; reset = 0; wait = 0 }
unfolding verdict_of bare
refused_is reason = refl

-- a refusal is its number with zeros
pub refused : (reason : Reason) → verdict_of (Refused reason) ≡ bare (reason_number reason)
unfolding verdict_of
refused reason = refl

pub corrupt : verdict_of (Refused CorruptRecord) ≡ bare 7
corrupt = refused CorruptRecord ∙ ap bare corrupt_record

pub bare_is : (n : ℕ) → bare n ≡ record { number = n; left = 0; reset = 0; wait = 0 }
unfolding bare
bare_is n = refl

-- .. and with a subscriber
pub answered_bare : (n subscriber : ℕ) → answered subscriber (bare n) ≡ record { number = n; subscriber = subscriber; left = 0; reset = 0; wait = 0 }
unfolding answered bare
answered_bare n subscriber = refl

-- the number of each verdict
pub bare_number : (n : ℕ) → (bare n).number ≡ n
unfolding bare
bare_number n = refl

-- .. and the zeros beside that of a refusal
pub bare_left : (n : ℕ) → (bare n).left ≡ 0
unfolding bare
bare_left n = refl

pub bare_reset : (n : ℕ) → (bare n).reset ≡ 0
unfolding bare
bare_reset n = refl

pub bare_wait : (n : ℕ) → (bare n).wait ≡ 0
unfolding bare
bare_wait n = refl

pub reported_number : (p : Plan) (at backlog : ℕ) → (reported p at backlog).number ≡ 0
unfolding reported
reported_number p at backlog = refl

pub reported_left : (p : Plan) (at backlog : ℕ) → (reported p at backlog).left ≡ remaining p backlog
unfolding reported
reported_left p at backlog = refl

pub reported_reset : (p : Plan) (at backlog : ℕ) → (reported p at backlog).reset ≡ reset_at p at backlog
unfolding reported
reported_reset p at backlog = refl

pub reported_wait : (p : Plan) (at backlog : ℕ) → (reported p at backlog).wait ≡ 0
unfolding reported
reported_wait p at backlog = refl

pub admitted_wait : (p : Plan) (at backlog cost : ℕ) → (admitted p at backlog cost).wait ≡ 0
unfolding admitted
admitted_wait p at backlog cost = reported_wait p at _

pub admitted_number : (p : Plan) (at backlog cost : ℕ) → (admitted p at backlog cost).number ≡ 0
unfolding admitted
admitted_number p at backlog cost = reported_number p at _

-- an answer has the numbers of its verdict
pub answered_number : (subscriber : ℕ) (v : Verdict) → (answered subscriber v).number ≡ v.number
unfolding answered
answered_number subscriber v = refl

pub answered_subscriber : (subscriber : ℕ) (v : Verdict) → (answered subscriber v).subscriber ≡ subscriber
unfolding answered
answered_subscriber subscriber v = refl

pub answered_left : (subscriber : ℕ) (v : Verdict) → (answered subscriber v).left ≡ v.left
unfolding answered
answered_left subscriber v = refl

pub answered_reset : (subscriber : ℕ) (v : Verdict) → (answered subscriber v).reset ≡ v.reset
unfolding answered
answered_reset subscriber v = refl

pub answered_wait : (subscriber : ℕ) (v : Verdict) → (answered subscriber v).wait ≡ v.wait
unfolding answered
answered_wait subscriber v = refl

-- an answer is its outcome's verdict, for the subscriber that it names
pub numbers : (subscriber : ℕ) (outcome : Outcome) → numbers_of (record { subscriber = subscriber; outcome = outcome }) ≡ answered subscriber (verdict_of outcome)
unfolding numbers_of
numbers subscriber outcome = refl

pub answer_is :
    (a : Answer) (v : Verdict) → verdict_of a.outcome ≡ v →
    numbers_of a ≡ record { number = v.number; subscriber = a.subscriber; left = v.left; reset = v.reset; wait = v.wait }
unfolding numbers_of answered
answer_is a v e = ap (λ (w : Verdict). answered a.subscriber w) e

-- the five numbers of a clear
pub done_is : cleared_numbers (Ok tt) ≡ record { number = 0; subscriber = 0; left = 0; reset = 0; wait = 0 }
unfolding cleared_numbers answered bare
done_is = refl

pub unfit_is : cleared_numbers (Err BadTable) ≡ record { number = 2; subscriber = 0; left = 0; reset = 0; wait = 0 }
unfolding cleared_numbers answered bare reason_number
unfit_is = refl

pub cleared_done : cleared_numbers (Ok tt) ≡ answered 0 (bare 0)
unfolding cleared_numbers
cleared_done = refl

pub cleared_unfit : cleared_numbers (Err BadTable) ≡ answered 0 (bare 2)
unfolding cleared_numbers reason_number
cleared_unfit = refl
