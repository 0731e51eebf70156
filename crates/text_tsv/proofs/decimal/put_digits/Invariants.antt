-- The digits after a place are written, and those of what is left go before it.
use Rattle.text_tsv.proofs.Writing.{Rest}
use Rattle.text_tsv.proofs.decimal.put_digits.Given as goal

abbrev pub invariant-loop-rest : goal.invariant-loop-rest
invariant-loop-rest l = Rest l.fn.out l.at l.n l.out l.rest l.place

abbrev pub decreases-loop-rest : goal.decreases-loop-rest
decreases-loop-rest l = l.rest
