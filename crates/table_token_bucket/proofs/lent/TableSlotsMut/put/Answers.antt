-- `table_token_bucket::lent::TableSlotsMut::put` meets its contract: the place lies within the columns.
-- Assumes nothing.
use Rattle.std.proofs.Common.{arith}
use Rattle.table_token_bucket.specs.Table.{table_in}
use Rattle.table_token_bucket.proofs.Columns.{least}
use Rattle.table_token_bucket.proofs.lent.TableSlotsMut.put.Goals as goal

pub offset_bounds-self-place : goal.offset_bounds-self-place
offset_bounds-self-place c = omega (arith, c.requires.place_in_bounds, (least (table_in c.args.self.now)).ids)

pub bounds-self-place : goal.bounds-self-place
bounds-self-place c = omega (arith, c.requires.place_in_bounds, (least (table_in c.args.self.now)).ids)

pub bounds-self-place-2 : goal.bounds-self-place-2
bounds-self-place-2 c = omega (arith, c.requires.place_in_bounds, (least (table_in c.args.self.now)).numbers)

pub offset_bounds-self-place-2 : goal.offset_bounds-self-place-2
offset_bounds-self-place-2 c = omega (arith, c.requires.place_in_bounds, (least (table_in c.args.self.now)).levels)

pub bounds-self-place-3 : goal.bounds-self-place-3
bounds-self-place-3 c = omega (arith, c.requires.place_in_bounds, (least (table_in c.args.self.now)).levels)

pub offset_bounds-self-place-3 : goal.offset_bounds-self-place-3
offset_bounds-self-place-3 c = omega (arith, c.requires.place_in_bounds, (least (table_in c.args.self.now)).lasts)

pub bounds-self-place-4 : goal.bounds-self-place-4
bounds-self-place-4 c = omega (arith, c.requires.place_in_bounds, (least (table_in c.args.self.now)).lasts)
