-- The program's whole output for its whole input (document 01, 'The tabbed text').
use Rattle.std.specs.Prelude.{ℕ, List, [], ◌∷◌, ◌++◌, replicate, Result, Ok, Err}
use Rattle.ticks.specs.declared.plan.Plan as plan
use Rattle.table_gcra.specs.Table.{Table, table_of}
use Rattle.text_tsv.specs.Text.{Line, lines}
use Rattle.text_protocol.specs.Command.{line_command}
use Rattle.text_protocol.specs.Reply.{header, line, refusal}
use Rattle.text_session.specs.declared.Opened.{Opened}
use Rattle.text_session.specs.declared.Refusal.{Refusal}
use Rattle.text_session.specs.Session.{number_of, opening, turn}

unfoldable pub run : plan.Plan → Table → List Line → List ℕ
run plan t [] = []
run plan t (l ∷ ls) = line (turn plan (line_command l) t).answer ++ run plan (turn plan (line_command l) t).after ls

-- a first line that is refused ends the run; a good one prints nothing
unfoldable pub begun : Result Opened Refusal → List Line → List ℕ
begun (Err r) ls = line (refusal (number_of r))
begun (Ok o) ls = run o.plan (table_of (replicate o.slots 0) (replicate o.slots 0) (replicate o.slots 0) 0) ls

unfoldable pub answers : List Line → List ℕ
answers [] = []
answers (l ∷ ls) = begun (opening (line_command l)) ls

unfoldable pub transcript : List ℕ → List ℕ
transcript text = header ++ answers (lines text)
