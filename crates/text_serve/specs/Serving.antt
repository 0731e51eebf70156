-- What a whole run promises: how it ended, and how many bytes it read and wrote.
use Rattle.std.specs.Prelude.{◌≡◌, List, ◌++◌, ℕ, ◌-◌, ◌^◌, ◌≤◌, length, Result, Ok, Err}
use Rattle.table_gcra.specs.Table.{Table}
use Rattle.text_protocol.specs.Reply.{header}
use Rattle.text_session.specs.Stream.{State, said, after, ending, start}
use Rattle.text_session.specs.Transcript.{transcript}
use Rattle.text_io.specs.Piece.{Counted}
use Rattle.text_serve.specs.declared.buffers.Buffers.{Buffers}
use Rattle.text_serve.specs.declared.error.RunError.{RunError}
use Rattle.text_serve.specs.declared.error.RunError.TheVariants.{Unread, TooLong, Unwritten}

-- what holds of a run that came to the input's end, of one that stopped before it, and of one that stopped since the input is
-- too long; nothing is promised where a write failed
unfoldable pub Finished : Result (Unit {0}) RunError → Type 0 → Type 0 → Type 0 → Type 0
Finished (Ok done) ended unended long = ended
Finished (Err Unread) ended unended long = unended
Finished (Err TooLong) ended unended long = long
Finished (Err Unwritten) ended unended long = Unit {0}

-- what is lent for the bytes of a run stays so: the same piece, and the same output
pub record SameBuffers (b b' : Buffers) : Type 0 where
  pub same_piece : b'.piece.ghost_name ≡ b.piece.ghost_name
  pub same_out : b'.out.ghost_name ≡ b.out.ghost_name

-- what a run changes: the table, and how many bytes were read and written
pub record Account : Type 0 where
  pub table : Table
  pub taken : ℕ
  pub sent : ℕ

abbrev pub account_of : Table → ℕ → ℕ → Account
account_of t taken sent = record { table = t; taken = taken; sent = sent }

-- the state before the first byte
abbrev pub start_of : Account → State
start_of a = start a.table

-- there is an input, not shorter than this, of as many bytes as were read, which leaves the table as it is, and as many
-- bytes were written as this text of it has
pub record Ran (least : ℕ) (text : List ℕ → List ℕ) (a b : Account) : Type 0 where
  pub input : List ℕ
  pub at_least : least ≤ length input
  pub taken_is : Counted a.taken (length input) b.taken
  pub sent_is : Counted a.sent (length (text input)) b.sent
  pub table_is : b.table ≡ (after (start_of a) input).table

-- an input of so many bytes is too long
abbrev pub too_long : ℕ
too_long = 2 ^ 64 - 1

-- after the header: what is said of the input, and at its end what is said there
abbrev pub Answers : Result (Unit {0}) RunError → Account → Account → Type 0
Answers r a b =
    Finished r
    (Ran 0 (λ input. said (start_of a) input ++ ending (after (start_of a) input)) a b)
    (Ran 0 (λ input. said (start_of a) input) a b)
    (Ran too_long (λ input. said (start_of a) input) a b)

-- the whole run: the transcript of the input, or before its end the header and what is said so far
abbrev pub Serves : Result (Unit {0}) RunError → Account → Account → Type 0
Serves r a b =
    Finished r
    (Ran 0 transcript a b)
    (Ran 0 (λ input. header ++ said (start_of a) input) a b)
    (Ran too_long (λ input. header ++ said (start_of a) input) a b)
