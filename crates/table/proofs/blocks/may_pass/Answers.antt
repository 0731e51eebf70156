-- `table::blocks::may_pass` meets its contract: the flag is raised wherever a place may pass.
-- Assumes nothing.
use Rattle.std.proofs.Common.{arith}
use Rattle.ticks.proofs.Tests.{neither}
use Rattle.table.proofs.Seek.{from_next}
use Rattle.table.proofs.blocks.may_pass.Goals as goal

pub loop-i-preserved : goal.loop-i-preserved
loop-i-preserved g c =
    λ test says no.
    let n = neither _ _ no in
    from_next test c.args.from c.loop-i.i (c.loop-i.invariant test says n.0)
    (says c.loop-i.i (omega arith) (omega arith) (rw n.1 at c.may-any.ensures))

pub returns : goal.returns
returns g c = λ test says no j above below. c.loop-i.invariant test says no j above (omega arith)
