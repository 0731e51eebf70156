-- `table::search::may_carry` meets its contract: each slot is compared with the number.
-- Assumes nothing.
use Rattle.std.proofs.Common.{rules}
use Rattle.table.specs.Slots.{carries}
use Rattle.table.proofs.search.may_carry.Goals as goal

pub returns : goal.returns
unfolding carries
returns c = c.may_pass.ensures (carries c.args.ids.now c.args.subscriber) (λ i above below no. search rules)
