-- The output's lines (document 01, 'The tabbed text'): the header, and the five numbers of an answer in its order.
use Rattle.std.specs.Prelude.{ℕ, List, ◌++◌}
use Rattle.rate.specs.declared.answer.Numbers.{Numbers}
use Rattle.text_tsv.specs.Text.{lf, tab, bytes_of}
use Rattle.text_tsv.specs.Decimal.{cell}

unfoldable pub header : List ℕ
header = bytes_of "outcome\tsubscriber\tleft\treset\twait\n"

unfoldable pub line : Numbers → List ℕ
line n = cell n.number tab ++ cell n.subscriber tab ++ cell n.left tab ++ cell n.reset tab ++ cell n.wait lf

-- a number and four zeros
abbrev pub refusal : ℕ → Numbers
refusal n = record { number = n; subscriber = 0; left = 0; reset = 0; wait = 0 }

-- the number of a line that cannot be read
abbrev pub unreadable : ℕ
unreadable = 10

-- an answer's line is no longer than this
abbrev pub most_reply : ℕ
most_reply = 105
