-- What an output for a piece's answers has room for, which `Buffers` of text_serve holds, and what the functions over a piece promise of the
-- bytes that they read and write.
use Rattle.std.specs.Prelude.{◌≡◌, ℕ, ◌+◌, ◌*◌, ◌%◌, ◌^◌, ◌≤◌, List, length, take, Option, Some, None, Result, Ok, Err, OnOk}
use Rattle.table_gcra.specs.Table.{Table}
use Rattle.text_protocol.specs.Reply.{most_reply}
use Rattle.text_session.specs.Stream.{State, said, after}
use Rattle.text_stream.specs.Running.{Session, Ready, state_of}
use Rattle.text_io.specs.declared.Unread.{Unread}
use Rattle.text_io.specs.declared.Unwritten.{Unwritten}

-- the output has room for the answers to a piece each of whose bytes ends a line
pub record Ample (piece out : List ℕ) : Type 0 where
  pub each_byte : most_reply * length piece ≤ length out
  pub one_line : most_reply ≤ length out

-- a count has grown by n bytes; counts are kept modulo 2^64
pub record Counted (count n count' : ℕ) : Type 0 where
  pub modulo : count' % 2 ^ 64 ≡ (count + n) % 2 ^ 64

-- the bytes that a read got, one at least, stand at the start of the piece and are counted; the input's end and a failure got none
unfoldable pub Took : Result (Option ℕ) Unread → List ℕ → ℕ → ℕ → Type 0
Took (Ok (Some n)) piece taken taken' = (1 ≤ n) × ((n ≤ length piece) × Counted taken n taken')
Took (Ok None) piece taken taken' = Counted taken 0 taken'
Took (Err e) piece taken taken' = Counted taken 0 taken'

-- a text stands at the start of the output, and its bytes are counted as written
pub record Written (text out : List ℕ) (sent sent' : ℕ) : Type 0 where
  pub begins : take (length text) out ≡ text
  pub sent_is : Counted sent (length text) sent'

-- what is said of a piece is written, and the next session stands for the state that the piece leads to
pub record Advanced (next : Session) (σ : State) (piece line : List ℕ) (t : Table) (out : List ℕ) (sent sent' : ℕ) : Type 0 where
  pub state_is : state_of next line t ≡ after σ piece
  pub written : Written (said σ piece) out sent sent'
  pub ready : Ready next line

-- nothing is promised where the answers cannot be written
abbrev pub Onwards :
    Result (Unit {0}) Unwritten → Session → State → List ℕ → List ℕ → Table → List ℕ → ℕ → ℕ → Type 0
Onwards r next σ piece line t out sent sent' = OnOk r (Advanced next σ piece line t out sent sent')
