-- The laws of this crate hold.
-- Assumes nothing.
use mathlib.Core.Path.{◌≡◌, ◌∙◌}
use mathlib.Core.Bool.{true}
use Prim.Native.Nat.{ℕ, ◌+◌, ◌≤◌}
use Rattle.ticks.specs.declared.plan.Plan.{Plan}
use Rattle.ticks.specs.Grains.{capacity, WithinLimits}
use Rattle.ticks.proofs.Limits.{within_limits, moment_within, moment_beyond}
use Rattle.rate.specs.Decision.{retry_after}
use Rattle.rate.specs.Account.{Account}
use Rattle.rate.specs.Balanced.{Balanced}
use Rattle.rate.specs.Laws.{ReasonNumbers, OutcomeNumbers, RetryLaws, DecisionLaws, VerdictLaws, RecordLaws, FreshLaws}
use Rattle.rate.proofs.Answers as answers
use Rattle.rate.proofs.ClockEnd as clock_end
use Rattle.rate.proofs.Fresh as fresh
use Rattle.rate.proofs.Left as left
use Rattle.rate.proofs.Look as look
use Rattle.rate.proofs.Reset as reset
use Rattle.rate.proofs.Wait as wait
use Rattle.rate.proofs.Zeros as zeros

pub reason_numbers : ReasonNumbers
reason_numbers =
    record {
      bad_plan = answers.bad_plan;
      bad_table = answers.bad_table;
      late_moment = answers.late_moment;
      early_moment = answers.early_moment;
      no_subscriber = answers.no_subscriber;
      zero_cost = answers.zero_cost;
      cost_above_burst = answers.cost_above_burst;
      corrupt_record = answers.corrupt_record;
      other_plan = answers.other_plan;
      not_on_clock = answers.not_on_clock;
      table_full = answers.table_full;
    }

pub outcome_numbers : OutcomeNumbers
outcome_numbers =
    record {
      admitted_is = answers.admitted_is;
      throttled_is = answers.throttled_is;
      refused_is = answers.refused_is;
      answer_is = answers.answer_is;
      done_is = answers.done_is;
      unfit_is = answers.unfit_is;
    }

pub retry_laws : RetryLaws
retry_laws =
    record {
      ends_within = λ at wait h. clock_end.retry_within at wait (moment_within (at + wait) h);
      ends_beyond = λ at wait h. clock_end.retry_beyond at wait (moment_beyond (at + wait) h);
      denied_8 = clock_end.denied_8;
      denied_13 = λ left reset. clock_end.denied_13 left reset ∙ answers.bare_is 13;
    }

pub decision_laws : (p : Plan) (backlog : ℕ) → WithinLimits p → backlog ≤ capacity p → DecisionLaws p backlog
decision_laws p backlog w within =
    record {
      left_admits = λ cost. left.left_admits p backlog cost w.period_least within;
      left_most = left.remaining_most p backlog;
      wait_positive = λ cost. wait.wait_positive p backlog cost w.limit_least;
      wait_most = λ cost. wait.wait_most p backlog cost w.limit_least within;
      throttled_8 = λ at cost h. clock_end.throttled_8 p at backlog cost (moment_within (at + retry_after p backlog cost) h);
      throttled_13 = λ at cost h.
          clock_end.throttled_13 p at backlog cost (moment_beyond (at + retry_after p backlog cost) h) ∙ answers.bare_is 13;
      reset_is_burst_wait = λ at. reset.reset_is_burst_wait p at backlog;
    }

pub verdict_laws : {P R : Type 0} (A : Account P R) (p : P) (at : ℕ) (r : R) → VerdictLaws A p at r
verdict_laws A p at r =
    record {
      judge_zeros = zeros.judge_zeros A p at r;
      report_zeros = zeros.report_zeros A p at r;
      admitted_waits_not = zeros.admitted_waits_not A p at r;
      report_waits_not = zeros.report_waits_not A p at r;
    }

module _ {P R : Type 0} {A : Account P R} (L : Balanced A) (p : P) (at : ℕ) (ok : A.ok p ≡ true) where
  limits : WithinLimits (A.plan p)
  limits = within_limits (A.plan p) (L.ok_plan p ok)

  pub record_laws : (r : R) → A.fault p at r ≡ 0 → RecordLaws A p at r
  record_laws r sound =
      record {
        least_wait = λ cost payable. wait.least_wait L p at r cost limits.limit_least payable sound;
        wait_ends = λ cost payable. wait.wait_ends L p at r cost limits.limit_least payable sound;
        burst_from_reset = reset.burst_from_reset L p at r limits.limit_least sound;
        drained_from_reset = reset.drained_from_reset L p at r limits.limit_least sound;
        admits_left = λ cost.
            L.admits_iff p at r cost
            ∙ left.left_admits (A.plan p) (A.backlog p at r) cost limits.period_least (L.within p at r sound);
        look_is_free_ask = look.look_is_free_ask L p at r;
        look_after = λ cost. look.look_after L p at r cost ok;
      }

  pub fresh_laws : FreshLaws A p at
  fresh_laws = record { fresh_admits = fresh.fresh_admits L p at; fresh_report = fresh.fresh_report L p at ok limits.period_least }
