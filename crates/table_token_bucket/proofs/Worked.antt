-- Document 01's examples, all of them, by the token bucket: the definitions give its answers, whatever the cleared slot held
-- before.
-- It names definitions of other crates on its `unfolding` line, as a worked example may.
-- Assumes nothing.
use mathlib.Core.Path.{◌≡◌, refl}
use mathlib.Core.List.{[], ◌∷◌}
use Prim.Native.Nat.{ℕ}
use Rattle.rate.specs.Answer.{answered}
use Rattle.rate.specs.Decision.{remaining, reset_at, retry_after, bare, reported, admitted, retry_from, denied, throttled}
use Rattle.rate.specs.Account.{soundness, guard, judge, settled}
use Rattle.ticks.specs.Grains.{ticks_in, price, capacity, div_up, one_to, plan_ok, on_clock}
use Rattle.plans.specs.Plans.{known, plan_at, all_ok, count_ok, lent_ok, plans_ok, possible, owing, fault_of, current}
use Rattle.rule_token_bucket.specs.TokenBucket.{token_bucket, fresh, sound, refilled, free, level_now, backlog, admits, spend}
use Rattle.table.specs.Checks.{slots_ok, query_check, cost_check, request_check}
use Rattle.table.specs.Slots.{common, seek_from, seek, carries, own, vacant, lowest_free}
use Rattle.table.specs.Calls.{ruled, newcomer, judge_in, commit, slot_from, slot_for, judge_call, acquire, clear}
use Rattle.table.specs.Worked.{plan, ask, asks, line, answers, burst_answer, nobody_answer, played, examples, expected}
use Rattle.table_token_bucket.specs.Table.{records, table_of, columns, rule}

pub worked :
    (id number level last newest : ℕ) →
    examples rule columns (table_of (id ∷ []) (number ∷ []) (level ∷ []) (last ∷ []) newest) ≡ expected
unfolding answered remaining reset_at retry_after bare reported admitted retry_from denied throttled soundness guard judge settled ticks_in price capacity div_up one_to plan_ok on_clock known plan_at all_ok count_ok lent_ok plans_ok possible owing fault_of current token_bucket fresh sound refilled free level_now backlog admits spend slots_ok query_check cost_check request_check common seek_from seek carries own vacant lowest_free ruled newcomer judge_in commit slot_from slot_for judge_call acquire clear plan ask asks line answers burst_answer nobody_answer played examples expected records
worked id number level last newest = refl
