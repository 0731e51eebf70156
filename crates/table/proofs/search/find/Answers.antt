-- `table::search::find` meets its contract: no slot of a block that is passed over carries the number, and the rest is searched one by
-- one.
-- Assumes nothing.
use Rattle.std.proofs.Common.{rules, arith}
use Rattle.table.specs.Slots.{carries}
use Rattle.table.proofs.search.find.Goals as goal

pub returns : goal.returns
unfolding carries
returns c =
    let passed = c.skip_blocks-at.ensures.none_from (carries c.args.ids.now c.args.subscriber) (λ at above below no. search rules) in
    c.first_between.ensures (carries c.args.ids.now c.args.subscriber) (λ i b above below is. search rules)
    (λ j below. passed j (omega arith) below)
