-- The runs, computed: the history gives the documents' answers, under good plans and bad ones; and the slots that they start on are
-- such as demand 3 is about, whatever they and the newest moments were before the clears.
-- It names definitions of other crates on its `unfolding` lines, as a worked example may.
-- Assumes nothing.
use mathlib.Core.Path.{◌≡◌, refl}
use mathlib.Core.List.{List, [], ◌∷◌}
use Prim.Native.Nat.{ℕ}
use native.Mathlib.Omega.{arith}
use Rattle.ticks.specs.declared.plan.Plan.{Plan}
use Rattle.ticks.specs.Grains.{ticks_in, price, capacity, div_up, one_to, plan_ok, on_clock}
use Rattle.rate.specs.Answer.{answered}
use Rattle.rate.specs.Decision.{admissible, remaining, reset_at, retry_after, bare, reported, admitted, retry_from, denied, throttled}
use Rattle.rate.specs.Account.{guard, judge, report, settled}
use Rattle.plans.specs.Plans as lent
use Rattle.plans.specs.Plans.{known, plan_at, all_ok, count_ok, lent_ok, plans_ok}
use Rattle.rule_gcra.specs.Gcra as paced
use Rattle.rule_token_bucket.specs.TokenBucket as bucket
use Rattle.table.specs.Checks.{slots_ok, query_check, cost_check, request_check}
use Rattle.table.specs.Slots.{common, seek_from, seek, carries, own, vacant, lowest_free}
use Rattle.table.specs.Calls as calls
use Rattle.table.specs.Worked.{line}
use Rattle.table_gcra.specs.Table as gcra_table
use Rattle.table_token_bucket.specs.Table as token_bucket_table
use Rattle.law_history.specs.Demand3.{Start, Agreement}
use Rattle.law_history.specs.History as book
use Rattle.law_history.specs.History.{calls_of, number_of, extend, latest_from, run_of, plan_number, costs, debt, owed, member, names, keep, owes, debtors, owes_elsewhere, decide, newest, shown}
use Rattle.law_history.specs.NeverCorrupt.{NeverFrom}
use Rattle.law_history.specs.Run.{Call, acquire, peek, engine, history, step, answers}
use Rattle.law_history.specs.Worked.{terms, plans, falling, falling_answers, ending, ending_answers, owing, owing_answers, changing, changing_answers, spoilt, too_many, refusals}

pub falling_answered : answers (history 1) plans [] falling ≡ falling_answers
unfolding answered admissible remaining reset_at retry_after bare reported admitted retry_from denied throttled guard known plan_at all_ok count_ok lent_ok plans_ok ticks_in price capacity div_up one_to plan_ok on_clock slots_ok query_check cost_check request_check line book.acquire book.peek book.clear calls_of number_of extend latest_from run_of plan_number costs debt owed member names keep owes debtors owes_elsewhere decide newest shown history step answers terms plans falling falling_answers
falling_answered = refl

pub ending_answered : answers (history 1) plans [] ending ≡ ending_answers
unfolding answered admissible remaining reset_at retry_after bare reported admitted retry_from denied throttled guard known plan_at all_ok count_ok lent_ok plans_ok ticks_in price capacity div_up one_to plan_ok on_clock slots_ok query_check cost_check request_check line book.acquire book.peek book.clear calls_of number_of extend latest_from run_of plan_number costs debt owed member names keep owes debtors owes_elsewhere decide newest shown history step answers terms plans ending ending_answers
ending_answered = refl

pub owing_answered : answers (history 1) plans [] owing ≡ owing_answers
unfolding answered admissible remaining reset_at retry_after bare reported admitted retry_from denied throttled guard known plan_at all_ok count_ok lent_ok plans_ok ticks_in price capacity div_up one_to plan_ok on_clock slots_ok query_check cost_check request_check line book.acquire book.peek book.clear calls_of number_of extend latest_from run_of plan_number costs debt owed member names keep owes debtors owes_elsewhere decide newest shown history step answers terms plans owing owing_answers
owing_answered = refl

pub changing_answered : answers (history 1) plans [] changing ≡ changing_answers
unfolding answered admissible remaining reset_at retry_after bare reported admitted retry_from denied throttled guard known plan_at all_ok count_ok lent_ok plans_ok ticks_in price capacity div_up one_to plan_ok on_clock slots_ok query_check cost_check request_check line book.acquire book.peek book.clear calls_of number_of extend latest_from run_of plan_number costs debt owed member names keep owes debtors owes_elsewhere decide newest shown history step answers terms plans changing changing_answers
changing_answered = refl

-- all calls are refused under these plans
abbrev pub Refused : List Plan → Type 0
Refused ps = answers (history 1) ps [] changing ≡ refusals changing

pub spoilt_refused : Refused spoilt
unfolding answered admissible remaining reset_at retry_after bare reported admitted retry_from denied throttled guard known plan_at all_ok count_ok lent_ok plans_ok ticks_in price capacity div_up one_to plan_ok on_clock slots_ok query_check cost_check request_check line book.acquire book.peek book.clear calls_of number_of extend latest_from run_of plan_number costs debt owed member names keep owes debtors owes_elsewhere decide newest shown history step answers terms changing refusals spoilt
spoilt_refused = refl

pub none_refused : Refused []
unfolding answered bare guard known plan_at all_ok count_ok lent_ok plans_ok one_to plan_ok query_check request_check line book.acquire book.peek book.clear history step answers terms changing refusals
none_refused = refl

pub too_many_refused : Refused too_many
unfolding answered bare guard known plan_at all_ok count_ok lent_ok plans_ok one_to plan_ok query_check request_check line book.acquire book.peek book.clear history step answers terms changing refusals too_many
too_many_refused = refl

-- any slot of each engine
abbrev pub gcra_slot : ℕ → ℕ → ℕ → ℕ → gcra_table.Table
gcra_slot id number tat newest = gcra_table.table_of (id ∷ []) (number ∷ []) (tat ∷ []) newest

abbrev pub bucket_slot : ℕ → ℕ → ℕ → ℕ → ℕ → token_bucket_table.Table
bucket_slot id number level last newest = token_bucket_table.table_of (id ∷ []) (number ∷ []) (level ∷ []) (last ∷ []) newest

pub one_slot :
    (id number tat newest : ℕ) (bucket_id bucket_number level last bucket_newest : ℕ) →
    Start 1 (gcra_slot id number tat newest) (bucket_slot bucket_id bucket_number level last bucket_newest)
unfolding answered bare slots_ok common calls.clear gcra_table.records token_bucket_table.records
one_slot id number tat newest bucket_id bucket_number level last bucket_newest =
    record { gcra_slots = refl; token_bucket_slots = refl; gcra_cleared = refl; token_bucket_cleared = refl }

-- two admissions, a wait, and the slot taken over at the first moment at which it is free
abbrev four : List Call
four = acquire 1000 7 0 1 ∷ acquire 1000 7 0 1 ∷ acquire 1000 7 0 1 ∷ acquire 1667 8 0 2 ∷ []

-- demand 3 at these calls, computed and not by the theorem
pub four_agree :
    (id number tat newest : ℕ) (bucket_id bucket_number level last bucket_newest : ℕ) →
    Agreement plans 1 (gcra_slot id number tat newest) (bucket_slot bucket_id bucket_number level last bucket_newest) four
unfolding answered admissible remaining reset_at retry_after bare reported admitted retry_from denied throttled guard known plan_at all_ok count_ok lent_ok plans_ok ticks_in price capacity div_up one_to plan_ok on_clock slots_ok query_check cost_check request_check line book.acquire book.peek book.clear calls_of number_of extend latest_from run_of plan_number costs debt owed member names keep owes debtors owes_elsewhere decide newest shown history step answers terms plans judge report settled lent.possible lent.owing lent.fault_of lent.current paced.gcra paced.fresh paced.sound paced.free paced.later paced.backlog paced.admits paced.spend bucket.token_bucket bucket.fresh bucket.sound bucket.refilled bucket.free bucket.level_now bucket.backlog bucket.admits bucket.spend common seek_from seek carries own vacant lowest_free calls.ruled calls.newcomer calls.judge_in calls.commit calls.slot_from calls.slot_for calls.judge_call calls.acquire calls.held_at calls.held calls.peek_verdict calls.peek calls.clear gcra_table.records token_bucket_table.records engine
four_agree id number tat newest bucket_id bucket_number level last bucket_newest =
    record { gcra_is_history = refl; token_bucket_is_history = refl }

-- a slot of shop 7 whose TAT is impossible gives 7, and none once it is cleared
abbrev damaged : gcra_table.Table
damaged = gcra_slot 7 0 1000000 0

pub damaged_gets_7 : answers (engine gcra_table.rule gcra_table.columns) plans damaged (peek 1000 7 0 ∷ []) ≡ line 7 7 0 0 0 ∷ []
unfolding answered admissible remaining reset_at retry_after bare reported admitted retry_from denied throttled guard known plan_at all_ok count_ok lent_ok plans_ok ticks_in price capacity div_up one_to plan_ok on_clock slots_ok query_check cost_check request_check line book.acquire book.peek book.clear calls_of number_of extend latest_from run_of plan_number costs debt owed member names keep owes debtors owes_elsewhere decide newest shown history step answers terms plans judge report settled lent.possible lent.owing lent.fault_of lent.current paced.gcra paced.fresh paced.sound paced.free paced.later paced.backlog paced.admits paced.spend bucket.token_bucket bucket.fresh bucket.sound bucket.refilled bucket.free bucket.level_now bucket.backlog bucket.admits bucket.spend common seek_from seek carries own vacant lowest_free calls.ruled calls.newcomer calls.judge_in calls.commit calls.slot_from calls.slot_for calls.judge_call calls.acquire calls.held_at calls.held calls.peek_verdict calls.peek calls.clear gcra_table.records token_bucket_table.records engine
damaged_gets_7 = refl

pub damaged_cleared : NeverFrom gcra_table.rule gcra_table.columns plans damaged (peek 1000 7 0 ∷ [])
unfolding answered admissible remaining reset_at retry_after bare reported admitted retry_from denied throttled guard known plan_at all_ok count_ok lent_ok plans_ok ticks_in price capacity div_up one_to plan_ok on_clock slots_ok query_check cost_check request_check line book.acquire book.peek book.clear calls_of number_of extend latest_from run_of plan_number costs debt owed member names keep owes debtors owes_elsewhere decide newest shown history step answers terms plans judge report settled lent.possible lent.owing lent.fault_of lent.current paced.gcra paced.fresh paced.sound paced.free paced.later paced.backlog paced.admits paced.spend bucket.token_bucket bucket.fresh bucket.sound bucket.refilled bucket.free bucket.level_now bucket.backlog bucket.admits bucket.spend common seek_from seek carries own vacant lowest_free calls.ruled calls.newcomer calls.judge_in calls.commit calls.slot_from calls.slot_for calls.judge_call calls.acquire calls.held_at calls.held calls.peek_verdict calls.peek calls.clear gcra_table.records token_bucket_table.records engine
damaged_cleared e = (λ z. omega (arith, z), tt)
