-- The laws of `specs/Laws`, each by its proof.
-- Assumes nothing.
use mathlib.Core.Path.{refl, sym}
use native.Mathlib.Omega.{arith}
use Rattle.text_protocol.specs.Reply.{header}
use Rattle.text_protocol.specs.Laws.{Laws, CommandLaws, ReplyLaws}
use Rattle.text_protocol.proofs.Exact as exact
use Rattle.text_protocol.proofs.Lengths as lengths
use Rattle.text_protocol.proofs.Reading as reading

of_commands : CommandLaws
of_commands =
    record {
      ask_exactly = λ bytes m s c. (exact.ask_only bytes m s c, exact.ask_line bytes m s c);
      plan_exactly = λ bytes n p. (exact.plan_only bytes n p, exact.plan_line bytes n p);
      ask_beyond = exact.ask_beyond;
      plan_beyond = exact.plan_beyond;
      line_read = λ bytes h. sym (reading.short_enough bytes (omega arith));
      line_too_long = λ bytes h. sym (reading.too_long bytes (omega arith));
      line_unended = reading.unended_says_nothing;
    }

of_replies : ReplyLaws
unfolding header
of_replies =
    record { header_bytes = refl; answer_line = exact.answer_line; answer_length = lengths.line_most; unreadable_line = refl }

pub laws : Laws
laws = record { of_commands = of_commands; of_replies = of_replies }
