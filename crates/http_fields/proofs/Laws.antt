-- The laws of `specs/Laws`, each by its proof: those of a client for any account with the backlog law, over columns that keep what is
-- written.
-- Assumes nothing.
use mathlib.Core.Path.{ap}
use Prim.Native.Nat.{ℕ}
use lib.Dec.{eqb}
use borrow.Author.Tests.{eq-eqb, ne_eqb}
use Rattle.ticks.specs.declared.plan.Plan.{Plan}
use Rattle.rate.specs.declared.answer.Numbers.{Numbers}
use Rattle.rate.specs.Account.{Account}
use Rattle.rate.specs.Balanced.{Balanced}
use Rattle.table.specs.Slots.{Columns}
use Rattle.table.specs.Stored.{Stored}
use Rattle.http_fields.specs.Fields.{silent, planned, reported}
use Rattle.http_fields.specs.Laws.{FieldLaws, Laws, ClientLaws}
use Rattle.http_fields.proofs.Cases as cases
use Rattle.http_fields.proofs.Client as client
use Rattle.http_fields.proofs.Least as least
use Rattle.http_fields.proofs.Renewed as renewed
use Rattle.http_fields.proofs.Worked as worked

of_fields : (p : Plan) (at : ℕ) (a : Numbers) → FieldLaws p at a
unfolding silent planned reported
of_fields p at a =
    record {
      bad_plan = cases.bad_plan p at a;
      admitted = λ ok n. cases.admitted p at a ok (eq-eqb a.number 0 n);
      throttled = λ ok n. cases.throttled p at a ok (ap (λ (x : ℕ). eqb x 0) n) (eq-eqb a.number 8 n);
      refused = λ ok z n. cases.refused p at a ok (ne_eqb a.number 0 z) (ne_eqb a.number 8 n);
      retry_least = least.retry_least p at a;
      retry_none = λ n. least.retry_none p at a (ne_eqb a.number 8 n);
      reset_least = least.reset_least p at a;
    }

pub laws : Laws
laws =
    record {
      of_fields = of_fields;
      seconds_least = least.seconds_least;
      window_least = least.window_least;
      worked = worked.worked;
    }

module _ {C P R : Type 0} {A : Account P R} (balanced : Balanced A) {K : Columns C R} (stored : Stored K) where
  pub client_laws : ClientLaws A K
  client_laws =
      record {
        remaining_within = client.remaining_within balanced K;
        look_remaining_within = client.look_remaining_within balanced K;
        retry_kept = client.retry_kept balanced K;
        never_told = client.never_told A K;
        reset_kept = renewed.reset_kept balanced K stored;
        look_reset_kept = renewed.look_reset_kept balanced K;
      }
