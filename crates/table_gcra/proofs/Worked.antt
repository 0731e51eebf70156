-- Document 01's examples, all of them: the definitions give its answers, whatever the cleared slot held before.
-- It names definitions of other crates on its `unfolding` line, as a worked example may.
-- Assumes nothing.
use mathlib.Core.Path.{◌≡◌, refl}
use mathlib.Core.List.{[], ◌∷◌}
use Prim.Native.Nat.{ℕ}
use Rattle.rate.specs.Answer.{answered}
use Rattle.rate.specs.Decision.{remaining, reset_at, retry_after, bare, reported, admitted, retry_from, denied, throttled}
use Rattle.rate.specs.Account.{soundness, guard, judge, settled}
use Rattle.rule_gcra.specs.Gcra.{gcra, fresh, sound, free, later, backlog, admits, spend}
use Rattle.ticks.specs.Grains.{ticks_in, price, capacity, div_up, one_to, plan_ok, on_clock}
use Rattle.plans.specs.Plans.{known, plan_at, all_ok, count_ok, lent_ok, plans_ok, possible, owing, fault_of, current}
use Rattle.table.specs.Checks.{slots_ok, query_check, cost_check, request_check}
use Rattle.table.specs.Slots.{common, seek_from, seek, carries, own, vacant, lowest_free}
use Rattle.table.specs.Calls.{ruled, newcomer, judge_in, commit, slot_from, slot_for, judge_call, acquire, clear}
use Rattle.table.specs.Worked.{plan, ask, asks, line, answers, burst_answer, nobody_answer, played, examples, expected}
use Rattle.table_gcra.specs.Table.{records, table_of, columns, rule}

pub worked :
    (id number tat newest : ℕ) → examples rule columns (table_of (id ∷ []) (number ∷ []) (tat ∷ []) newest) ≡ expected
unfolding answered remaining reset_at retry_after bare reported admitted retry_from denied throttled soundness guard judge settled gcra fresh sound free later backlog admits spend ticks_in price capacity div_up one_to plan_ok on_clock slots_ok query_check cost_check request_check common seek_from seek carries own vacant lowest_free ruled newcomer judge_in commit slot_from slot_for judge_call acquire clear plan ask asks line answers burst_answer nobody_answer played examples expected records known plan_at all_ok count_ok lent_ok plans_ok possible owing fault_of current
worked id number tat newest = refl
