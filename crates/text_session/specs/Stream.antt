-- The same, byte by byte, as a program in constant memory does it: it keeps the unfinished line, at most 128 bytes of it, and
-- answers each line at its LF.
use Rattle.std.specs.Prelude.{ℕ, ◌+◌, Bool, true, false, cond, List, [], ◌∷◌, ◌++◌, eqb, take, Option, Some, None}
use Rattle.table_gcra.specs.Table.{Table}
use Rattle.text_tsv.specs.Text.{lf}
use Rattle.text_protocol.specs.Command.{most_line, line_command}
use Rattle.text_protocol.specs.Reply.{line}
use Rattle.rate.specs.declared.answer.Numbers as numbers
use Rattle.text_session.specs.declared.Stage.{Stage}
use Rattle.text_session.specs.declared.Stage.TheVariants.{First}
use Rattle.text_session.specs.Session.{Told, answer, unended}

-- how far the run has come, the columns, and the unfinished line
pub record State : Type 0 where
  pub stage : Stage
  pub table : Table
  pub held : List ℕ

-- the bytes of a reply
unfoldable pub text_of : Option numbers.Numbers → List ℕ
text_of None = []
text_of (Some n) = line n

-- more bytes of the unfinished line, of which 128 are kept: with its LF, a line of that many is too long
abbrev pub kept : State → List ℕ → State
kept σ s = record { stage = σ.stage; table = σ.table; held = take most_line (σ.held ++ s) }

abbrev pub at_lf : State → Told
at_lf σ = answer σ.stage (line_command (record { bytes = σ.held; ended = true })) σ.table

-- what a byte adds to the output, and what it leads to
unfoldable pub says : State → ℕ → List ℕ
says σ b = cond (eqb b lf) (text_of (at_lf σ).reply) []

unfoldable pub moved : State → ℕ → State
moved σ b = cond (eqb b lf) (record { stage = (at_lf σ).stage; table = (at_lf σ).table; held = [] }) (kept σ (b ∷ []))

-- and so a piece of the input
unfoldable pub said : State → List ℕ → List ℕ
said σ [] = []
said σ (b ∷ s) = says σ b ++ said (moved σ b) s

unfoldable pub after : State → List ℕ → State
after σ [] = σ
after σ (b ∷ s) = after (moved σ b) s

unfoldable pub is_held : List ℕ → Bool
is_held [] = false
is_held (b ∷ s) = true

-- what is said at the input's end
unfoldable pub ending : State → List ℕ
ending σ = cond (is_held σ.held) (text_of (unended σ.stage)) []

abbrev pub start : Table → State
start t = record { stage = First; table = t; held = [] }

-- how many lines of a piece end
unfoldable pub endings : List ℕ → ℕ
endings [] = 0
endings (b ∷ s) = cond (eqb b lf) 1 0 + endings s
