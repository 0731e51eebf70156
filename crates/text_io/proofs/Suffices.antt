-- The output has room for every answer to a piece, and for what is said at the input's end.
-- Assumes nothing.
use Rattle.std.proofs.Common.{◌≡◌, ℕ, ◌+◌, ◌*◌, ◌≤◌, List, length, arith}
use Rattle.text_protocol.specs.Reply.{most_reply}
use Rattle.text_session.specs.Stream.{State, said}
use Rattle.text_session.proofs.Lengths.{said_most, ending_most, endings_most}
use Rattle.text_stream.specs.Running.{Session, state_of, no_table, ending_of}

-- what is said of some bytes fits, and what is said at the input's end
pub answers_fit : (σ : State) (bytes : List ℕ) {n room : ℕ} → n ≡ 0 + length (said σ bytes) → most_reply * length bytes ≤ room → n ≤ room
answers_fit σ bytes e h = omega (arith, said_most σ bytes, endings_most bytes)

pub end_fits : (s : Session) (line out : List ℕ) → most_reply ≤ length out → 0 + length (ending_of s line) ≤ length out
end_fits s line out h = omega (arith, ending_most (state_of s line no_table))
