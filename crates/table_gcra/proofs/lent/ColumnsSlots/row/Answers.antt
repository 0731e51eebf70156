-- `table_gcra::lent::ColumnsSlots::row` meets its contract: the place lies within the columns.
-- Assumes nothing.
use Rattle.std.proofs.Common.{refl, arith}
use Rattle.table_gcra.specs.Table.{records, lent_of}
use Rattle.table_gcra.proofs.Columns.{least}
use Rattle.table_gcra.proofs.lent.ColumnsSlots.row.Goals as goal

pub bounds-self-place : goal.bounds-self-place
bounds-self-place c = omega (arith, (least (lent_of c.args.self.now)).numbers)

pub offset_bounds-self-place : goal.offset_bounds-self-place
offset_bounds-self-place c = omega (arith, (least (lent_of c.args.self.now)).tats)

pub bounds-self-place-2 : goal.bounds-self-place-2
bounds-self-place-2 c = omega (arith, (least (lent_of c.args.self.now)).tats)

pub returns : goal.returns
unfolding records
returns c = refl
