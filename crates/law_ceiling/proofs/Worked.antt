-- The runs, computed: what is counted in them.
-- It names definitions of other crates on its `unfolding` lines, as a worked example may.
-- Assumes nothing.
use mathlib.Core.Path.{refl}
use Rattle.ticks.specs.Grains.{ticks_in, price, capacity, div_up, one_to, plan_ok, on_clock}
use Rattle.rate.specs.Answer.{answered}
use Rattle.rate.specs.Decision.{admissible, remaining, reset_at, retry_after, bare, reported, admitted, retry_from, denied, throttled}
use Rattle.rate.specs.Account.{guard}
use Rattle.plans.specs.Plans.{known, plan_at, all_ok, count_ok, lent_ok, plans_ok}
use Rattle.table.specs.Checks.{slots_ok, query_check, cost_check, request_check}
use Rattle.law_history.specs.History as book
use Rattle.law_history.specs.History.{calls_of, number_of, extend, latest_from, run_of, plan_number, costs, debt, owed, member, names, keep, owes, debtors, owes_elsewhere, decide, newest, shown}
use Rattle.law_history.specs.Run.{history, step, answers}
use Rattle.law_history.specs.Worked.{terms}
use Rattle.law_ceiling.specs.Counted.{select, units, final, note, noted}
use Rattle.law_ceiling.specs.Ceiling.{ceiling}
use Rattle.law_ceiling.specs.Least.{greedy}
use Rattle.law_ceiling.specs.Worked.{plans, meeting, clearing, changing, Counts}

pub counts : Counts
unfolding answered admissible remaining reset_at retry_after bare reported admitted retry_from denied throttled guard known plan_at all_ok count_ok lent_ok plans_ok ticks_in price capacity div_up one_to plan_ok on_clock slots_ok query_check cost_check request_check book.acquire book.peek book.clear calls_of number_of extend latest_from run_of plan_number costs debt owed member names keep owes debtors owes_elsewhere decide newest shown history step answers terms plans select units final note noted ceiling greedy meeting clearing changing
counts =
    record {
      five = refl;
      meets = refl;
      in_figures = refl;
      without_the_last = refl;
      without_the_first = refl;
      of_the_other = refl;
      since_the_clear = refl;
      noted_five = refl;
      noted_since = refl;
      under_plan_0 = refl;
      under_plan_1 = refl;
      ceilings = (refl, refl);
      and_back = refl;
      greedy_four = refl;
    }
