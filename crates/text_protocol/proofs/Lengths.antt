-- How long the output's lines are: the header is 35 bytes, and an answer's line at most 105, five cells of at most 21.
-- Assumes nothing.
use mathlib.Core.Path.{◌≡◌, refl}
use Prim.Native.Nat.{ℕ, ◌≤◌}
use native.Mathlib.Omega.{arith}
use lib.ListN.{length, length-append}
use Rattle.rate.specs.declared.answer.Numbers.{Numbers}
use Rattle.text_tsv.specs.Text.{lf, tab}
use Rattle.text_tsv.specs.Decimal.{cell}
use Rattle.text_tsv.proofs.Digits.{digits_most, cell_length}
use Rattle.text_protocol.specs.Reply.{header, line, most_reply}

pub header_length : length header ≡ 35
unfolding header
header_length = refl

cell_most : (n end : ℕ) → length (cell n end) ≤ 21
cell_most n end = omega (arith, cell_length n end, digits_most n)

pub line_most : (n : Numbers) → length (line n) ≤ most_reply
unfolding line
line_most n =
    simp length-append
    (omega (
      arith,
      cell_most n.number tab,
      cell_most n.subscriber tab,
      cell_most n.left tab,
      cell_most n.reset tab,
      cell_most n.wait lf,
    ))
