-- `table::search::may_be_at_most` meets its contract: each number is compared with the most.
-- Assumes nothing.
use Rattle.std.proofs.Common.{rules}
use Rattle.table.specs.Slots.{at_most}
use Rattle.table.proofs.search.may_be_at_most.Goals as goal

pub returns : goal.returns
unfolding at_most
returns c = λ small. c.may_pass.ensures (at_most c.args.column.now c.args.most.0) (λ i above below no. search rules)
