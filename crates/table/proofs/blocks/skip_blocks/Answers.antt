-- `table::blocks::skip_blocks` meets its contract: no place before `at` passes.
-- Assumes nothing.
use Rattle.std.proofs.Common.{◌+◌, ◌≤◌, arith}
use Rattle.table.proofs.Seek.{from_block}
use Rattle.table.proofs.blocks.skip_blocks.Goals as goal

pub loop-at-preserved : goal.loop-at-preserved
loop-at-preserved g c =
    let here : (c.args.from ≤ c.loop-at.at) × (c.loop-at.at ≤ c.args.slots) = c.loop-at.invariant.0 in
    let room : c.loop-at.at + g.row.SIZE ≤ c.args.slots = omega arith in (
      (omega arith, room),
      λ test says.
          from_block test c.args.from c.loop-at.at (c.loop-at.at + g.row.SIZE) (c.loop-at.invariant.1 test says)
          (says c.loop-at.at here.0 room (rw c.if-not-may.true at c.may.ensures)),
    )
