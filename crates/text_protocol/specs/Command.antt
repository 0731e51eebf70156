-- What a line says (document 01, 'The tabbed text'): `plan`, seats, limit, period, burst; or `ask`, moment, subscriber, cost.
use Rattle.std.specs.Prelude.{ℕ, ◌+◌, ◌^◌, ◌-◌, cond, ◌&&◌, List, [], ◌∷◌, leb, length, Option, Some, None}
use Rattle.text_tsv.specs.Text.{Line, fields, same, bytes_of}
use Rattle.text_tsv.specs.Fields.{Taken, unreadable, number, take_number}
use Rattle.text_protocol.specs.declared.command.Command.{Command}
use Rattle.text_protocol.specs.declared.command.Command.TheVariants.{Plan, Ask}

-- the moment fits 64 bits and the rest 32
abbrev pub most64 : ℕ
most64 = 2 ^ 64 - 1

abbrev pub most32 : ℕ
most32 = 2 ^ 32 - 1

abbrev pub ask_word : List ℕ
ask_word = bytes_of "ask"

abbrev pub plan_word : List ℕ
plan_word = bytes_of "plan"

unfoldable pub given : Taken → (ℕ → List (List ℕ) → Option Command) → Option Command
given unreadable rest = None
given (number n fs) rest = rest n fs

-- a number off the front, and then the rest
unfoldable pub then : ℕ → List (List ℕ) → (ℕ → List (List ℕ) → Option Command) → Option Command
then most fs rest = given (take_number most fs) rest

-- no field is left
unfoldable pub last : List (List ℕ) → Option Command → Option Command
last [] c = c
last (f ∷ fs) c = None

unfoldable pub ask_of : List (List ℕ) → Option Command
ask_of fs =
    then most64 fs λ moment fs.
    then most32 fs λ subscriber fs.
    then most32 fs λ cost fs.
    last fs (Some (Ask moment subscriber cost))

unfoldable pub plan_of : List (List ℕ) → Option Command
plan_of fs =
    then most32 fs λ slots fs.
    then most32 fs λ limit fs.
    then most32 fs λ period fs.
    then most32 fs λ burst fs.
    last fs (Some (Plan slots (record { limit = limit; period = period; burst = burst })))

unfoldable pub worded : List (List ℕ) → Option Command
worded [] = None
worded (word ∷ fs) = cond (same word ask_word) (ask_of fs) (cond (same word plan_word) (plan_of fs) None)

-- what the bytes of a line say
unfoldable pub command : List ℕ → Option Command
command bytes = worded (fields bytes)

-- the longest line, with its LF
abbrev pub most_line : ℕ
most_line = 128

-- a line that is longer than that, or lacks its LF, says nothing
unfoldable pub line_command : Line → Option Command
line_command l = cond (l.ended && leb (length l.bytes + 1) most_line) (command l.bytes) None
