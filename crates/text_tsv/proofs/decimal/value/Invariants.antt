-- The digits so far came to the value.
use Rattle.std.proofs.Common.{◌≡◌, drop, Some}
use Rattle.text_tsv.specs.Decimal.{onwards}
use Rattle.text_tsv.proofs.decimal.value.Given as goal

abbrev pub invariant-loop-byte : goal.invariant-loop-byte
invariant-loop-byte l = onwards l.most (Some l.value) (drop l.byte-index l.text) ≡ onwards l.most (Some 0) l.text
