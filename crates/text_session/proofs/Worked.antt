-- Document 01's example: the transcript of its input is its output, byte for byte. It holds by computation.
-- It names definitions of other crates on its `unfolding` line, as a worked example may.
-- Assumes nothing.
use mathlib.Core.Path.{◌≡◌, refl}
use Rattle.rate.specs.Answer.{answered}
use Rattle.rate.specs.Decision.{remaining, reset_at, retry_after, bare, reported, admitted, retry_from, denied, throttled}
use Rattle.rate.specs.Account.{soundness, guard, judge, settled}
use Rattle.rule_gcra.specs.Gcra.{gcra, fresh, sound, free, later, backlog, admits, spend}
use Rattle.ticks.specs.Grains.{ticks_in, price, capacity, div_up, one_to, plan_ok, on_clock}
use Rattle.table.specs.Checks.{slots_ok, query_check, cost_check, request_check}
use Rattle.table.specs.Slots.{common, seek_from, seek, carries, own, vacant, lowest_free}
use Rattle.table.specs.Calls.{ruled, newcomer, judge_in, commit, slot_from, slot_for, judge_call, acquire}
use Rattle.table_gcra.specs.Table.{records}
use Rattle.plans.specs.Plans.{known, plan_at, all_ok, count_ok, lent_ok, plans_ok, possible, owing, fault_of, current}
use Rattle.text_tsv.specs.Text.{longer, lines, wider, fields, same}
use Rattle.text_tsv.specs.Decimal.{is_digit, appended, more, onwards, alone, decimal, digits_up_to, digits, cell}
use Rattle.text_tsv.specs.Fields.{taken_as, take_number}
use Rattle.text_protocol.specs.Command.{given, then, last, ask_of, plan_of, worded, command, line_command}
use Rattle.text_protocol.specs.Reply.{line, header}
use Rattle.text_session.specs.Session.{number_of, opening, turn}
use Rattle.text_session.specs.Transcript.{run, begun, answers, transcript}
use Rattle.text_session.specs.Worked.{input, expected}

pub worked : transcript input ≡ expected
unfolding answered remaining reset_at retry_after bare reported admitted retry_from denied throttled soundness guard judge settled gcra fresh sound free later backlog admits spend ticks_in price capacity div_up one_to plan_ok on_clock slots_ok query_check cost_check request_check common seek_from seek carries own vacant lowest_free ruled newcomer judge_in commit slot_from slot_for judge_call acquire records known plan_at all_ok count_ok lent_ok plans_ok possible owing fault_of current longer lines wider fields same is_digit appended more onwards alone decimal digits_up_to digits cell taken_as take_number given then last ask_of plan_of worded command line_command line header number_of opening turn run begun answers transcript input expected
worked = refl
