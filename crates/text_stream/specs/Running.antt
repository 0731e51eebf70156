-- What the functions of a stream require and promise, and the session that it stands for: all but the line's bytes.
use Rattle.std.specs.Prelude.{◌≡◌, List, [], ℕ, ◌+◌, ◌≤◌, length, take}
use Rattle.std.proofs.lemmas.List.Edits.{sets}
use Rattle.table_gcra.specs.Table.{Table, table_of}
use Rattle.text_protocol.specs.Command.{most_line}
use Rattle.text_session.specs.declared.Stage.{Stage}
use Rattle.text_session.specs.declared.Stage.TheVariants.{First}
use Rattle.text_session.specs.Session.{Lent, Bounded}
use Rattle.text_session.specs.Stream.{State, ending}
use Rattle.text_stream.specs.declared.Stream.{Stream}

-- how far a run has come: its stage, and how many bytes of the unfinished line are held
pub record Session : Type 0 where
  pub stage : Stage
  pub held : ℕ

-- .. after a piece of the input, and where the next byte of the output goes
pub record Fed : Type 0 where
  pub session : Session
  pub at : ℕ

abbrev pub session_of : Stream → Session
session_of s = record { stage = s.stage; held = s.held }

abbrev pub fed_of : Stream → ℕ → Fed
fed_of s at = record { session = session_of s; at = at }

-- the state that a session stands for
abbrev pub state_of : Session → List ℕ → Table → State
state_of s line t = record { stage = s.stage; table = t; held = take s.held line }

-- the session before the first byte
abbrev pub started : Session
started = record { stage = First; held = 0 }

-- what is said at the input's end is the same whatever the table holds, so here it has no slots
abbrev pub no_table : Table
no_table = table_of [] [] [] 0

-- the state of a stream, with the line that it holds
abbrev pub stream_state : Stream → Table → State
stream_state s t = state_of (session_of s) s.line t

abbrev pub ending_of : Session → List ℕ → List ℕ
ending_of s line = ending (state_of s line no_table)

-- what is held is within the line's buffer
pub record Ready (s : Session) (line : List ℕ) : Type 0 where
  pub bounded : Bounded s.stage
  pub held_within : s.held ≤ most_line
  pub line_enough : most_line ≤ length line

-- what was said is written, and the session stands for the state that it led to
pub record Moved (text : List ℕ) (σ : State) (at : ℕ) (r : Fed) (line : List ℕ) (t : Table) (out out' : List ℕ) : Type 0 where
  pub state_is : state_of r.session line t ≡ σ
  pub at_is : r.at ≡ at + length text
  pub out_is : out' ≡ sets out at text
  pub ready : Ready r.session line
  pub lent : Lent t.table.ids t.numbers t.table.tats
