-- `table_token_bucket::lent::Columns::bucket_at` meets its contract: the place lies within both columns.
-- Assumes nothing.
use Rattle.std.proofs.Common.{arith}
use Rattle.table_token_bucket.specs.Table.{lent_of}
use Rattle.table_token_bucket.proofs.Columns.{least}
use Rattle.table_token_bucket.proofs.lent.Columns.bucket_at.Goals as goal

pub offset_bounds-self-place : goal.offset_bounds-self-place
offset_bounds-self-place c = omega (arith, (least (lent_of c.args.self.now)).levels)

pub bounds-self-place : goal.bounds-self-place
bounds-self-place c = omega (arith, (least (lent_of c.args.self.now)).levels)

pub offset_bounds-self-place-2 : goal.offset_bounds-self-place-2
offset_bounds-self-place-2 c = omega (arith, (least (lent_of c.args.self.now)).lasts)

pub bounds-self-place-2 : goal.bounds-self-place-2
bounds-self-place-2 c = omega (arith, (least (lent_of c.args.self.now)).lasts)
