-- `table_token_bucket::lent::ColumnsSlots::row` meets its contract: the place lies within the columns.
-- Assumes nothing.
use Rattle.std.proofs.Common.{ap, arith, get_or}
use Rattle.plans.specs.Plans.{planned_of}
use Rattle.rule_token_bucket.specs.declared.Bucket.{Bucket}
use Rattle.table_token_bucket.specs.Table.{records, lent_of}
use Rattle.table_token_bucket.proofs.Columns.{least}
use Rattle.table_token_bucket.proofs.lent.ColumnsSlots.row.Goals as goal

pub bounds-self-place : goal.bounds-self-place
bounds-self-place c = omega (arith, (least (lent_of c.args.self.now)).numbers)

pub returns : goal.returns
unfolding records
returns c = ap (λ (b : Bucket). planned_of (get_or c.args.self.now.numbers.now c.args.place 0) b) c.bucket_at.ensures
