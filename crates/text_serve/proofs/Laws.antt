-- The page of laws holds.
-- Assumes nothing.
use Rattle.std.proofs.Common.{[], ◌++◌, refl, arith}
use Rattle.text_protocol.specs.Reply.{header}
use Rattle.text_session.specs.Stream.{said}
use Rattle.text_session.specs.Transcript.{transcript}
use Rattle.std.specs.Prelude.{Ok, Err}
use Rattle.text_serve.specs.declared.error.RunError.TheVariants.{Unread, TooLong}
use Rattle.text_serve.specs.Serving.{Finished, Account, start_of, Ran, Serves}
use Rattle.text_serve.specs.Laws.{RunLaws}
use Rattle.text_serve.proofs.Reached as reached

module _ (a : Account) {b : Account} where
  ended : Serves (Ok tt) a b → Ran 0 transcript a b
  unfolding Finished
  ended s = s

  unended : Serves (Err Unread) a b → Ran 0 (λ input. header ++ said (start_of a) input) a b
  unfolding Finished
  unended s = s

  too_long : Serves (Err TooLong) a b → Ran 18446744073709551615 (λ input. header ++ said (start_of a) input) a b
  unfolding Finished
  too_long s = s

pub run_laws : (a : Account) → RunLaws a
run_laws a =
    record {
      reached_start = reached.reached_start a [] (omega arith) refl;
      reached_on = λ r p. reached.reached_on r p;
      served = λ lent h. reached.served a lent h;
      ended = ended a;
      unended = unended a;
      too_long = too_long a;
    }
