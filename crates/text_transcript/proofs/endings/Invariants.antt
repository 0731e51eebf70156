-- `text_transcript::endings`: those counted, and those from here on, are all.
use Rattle.std.proofs.Common.{◌≡◌, ◌+◌, drop}
use Rattle.text_session.specs.Stream.{endings}
use Rattle.text_transcript.proofs.endings.Given as goal

abbrev pub invariant-loop-byte : goal.invariant-loop-byte
invariant-loop-byte l = l.count + endings (drop l.byte-index l.text) ≡ endings l.text
