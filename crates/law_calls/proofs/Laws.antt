-- The laws of the calls hold: what is said of any rule, over columns that keep what is written; and what is said besides of any
-- account with the backlog law.
-- Assumes nothing.
use Rattle.rate.specs.Account.{Account}
use Rattle.rate.specs.Balanced.{Balanced}
use Rattle.table.specs.Rule.{Rule, rule_of, BareRefusals}
use Rattle.table.specs.Slots.{Columns}
use Rattle.table.specs.Stored.{Stored}
use Rattle.table.proofs.Cases as cases
use Rattle.table.proofs.Placing as placing
use Rattle.table.proofs.Writes as writes
use Rattle.law_calls.specs.Laws.{RuleLaws, RefusalLaws, CallLaws}
use Rattle.law_calls.proofs.Causes as causes
use Rattle.law_calls.proofs.Cleared as cleared
use Rattle.law_calls.proofs.Left as left
use Rattle.law_calls.proofs.Newest as newest
use Rattle.law_calls.proofs.Numbers as numbers
use Rattle.law_calls.proofs.Peek as looks
use Rattle.law_calls.proofs.PeekCauses as peek_causes
use Rattle.law_calls.proofs.PeekNumbers as peeks
use Rattle.law_calls.proofs.Reset as reset
use Rattle.law_calls.proofs.Wait as wait
use Rattle.law_calls.proofs.Zeros as zeros

module _ {C P R : Type 0} (U : Rule P R) {K : Columns C R} (stored : Stored K) where
  pub rule_laws : RuleLaws U K
  rule_laws =
      record {
        of_acquire = λ r c.
            record {
              exactly_when = λ n. (causes.caused U K r c, causes.causes U K r c);
              denied_changes_nothing = writes.denied_changes_nothing U K r c;
              admission_writes_one = writes.admission_writes_one U K r c;
              other_slots = writes.other_slots U K r c stored;
              taken_slot = writes.taken_slot U K r c stored;
              early_refused = newest.early_refused U K r c;
              names_subscriber = zeros.names_subscriber U K r c;
            };
        peek_exactly_when = λ q c n. (peek_causes.peek_caused U K q c, peek_causes.peek_causes U K q c);
        peek_keeps = λ q c. cases.peek_keeps U K c q;
        peek_early_refused = newest.peek_early_refused U K;
        peek_names_subscriber = zeros.peek_names_subscriber U K;
        clear_0 = peeks.clear_0 K;
        cleared_zeros = cleared.cleared_after K;
        clear_2 = peeks.clear_2 K;
        unfit_kept = cleared.unfit_kept K;
        clear_zeros = zeros.clear_zeros K;
        newest_written = newest.written U stored;
        newest_beyond = newest.locked U K;
      }

pub refusal_laws : {C P R : Type 0} {U : Rule P R} → BareRefusals U → (K : Columns C R) → RefusalLaws U K
refusal_laws {U = U} bare K = record { acquire_zeros = zeros.acquire_zeros U K bare; peek_zeros = zeros.peek_zeros U K bare }

module _ {C P R : Type 0} {A : Account P R} (balanced : Balanced A) {K : Columns C R} (stored : Stored K) where
  pub call_laws : CallLaws A K
  call_laws =
      record {
        of_rule = rule_laws (rule_of A) stored;
        of_refusals = refusal_laws (zeros.account_bare A K) K;
        of_acquire = λ r c.
            record {
              exactly_when = λ n. (numbers.grounds A K r c balanced, numbers.decides A K r c balanced);
              number_11 = newest.number_11 balanced K r c;
              admitted_waits_not = zeros.admitted_waits_not A K r c;
              left_now = left.acquire_left_now balanced K stored r c;
              least_wait = wait.call_least_wait balanced K r c;
              never_served = wait.call_never_served balanced K r c;
              reset_moment = reset.acquire_reset balanced K stored r c;
              cleared_admits = cleared.cleared_number balanced K stored c r;
              peek_after_admission = looks.peek_after_admission balanced K stored r c;
              peek_of_denied = looks.peek_of_denied balanced K r c;
            };
        of_peek = λ q c.
            record {
              exactly_when = λ n. (peeks.peek_grounds A K q c balanced, peeks.peek_decides A K q c balanced);
              number_11 = newest.peek_number_11 balanced K q c;
              is_free_acquire = looks.peek_is_free_acquire balanced K q c;
              waits_not = zeros.peek_waits_not A K q c;
              left_now = left.peek_left_now balanced K q c;
              first_drained = reset.peek_first_drained balanced K q c;
              reset_moment = reset.peek_held_reset balanced K q c;
              vacant_owes_nothing = placing.vacant_owes_nothing balanced K q c;
            };
      }
