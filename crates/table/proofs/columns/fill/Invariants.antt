-- `table::columns::fill` meets its contract: what lies before the place is written.
-- Assumes nothing.
use Rattle.std.proofs.Common.{◌≡◌, replicate, take}
use Rattle.table.proofs.columns.fill.Given as goal

abbrev pub invariant-loop-element : goal.invariant-loop-element
invariant-loop-element g l = take l.element-index l.column ≡ replicate l.element-index l.value
