-- `field::Reader::take`: the field ends within the text.
use Rattle.std.proofs.Common.{arith}
use Rattle.text_tsv.specs.Text.{tab}
use Rattle.text_tsv.proofs.Scanning.{place_within}
use Rattle.text_tsv.proofs.field.Reader.take.Goals as goal

pub overflow_add-end : goal.overflow_add-end
overflow_add-end c = omega (arith, place_within tab _ _ (omega arith) c.find-end.ensures)

pub slice_bounds-result-end : goal.slice_bounds-result-end
slice_bounds-result-end c = omega (arith, place_within tab _ _ (omega arith) c.find-end.ensures)
