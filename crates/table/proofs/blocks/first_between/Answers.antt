-- `table::blocks::first_between` meets its contract: no place before i passes.
-- Assumes nothing.
use Rattle.std.proofs.Common.{sym, ◌∙◌, arith}
use Rattle.table.proofs.Seek.{none_next, seek_end, seek_here}
use Rattle.table.proofs.blocks.first_between.Goals as goal

pub returns-then-passes : goal.returns-then-passes
returns-then-passes g c =
    λ test says none.
    let here = says c.loop-i.i c.passes.result (omega arith) (omega arith) c.passes.ensures in
    seek_here test c.args.to c.loop-i.i (c.loop-i.invariant test says none) (omega arith) (sym here ∙ c.if-passes.true)

pub loop-i-preserved : goal.loop-i-preserved
loop-i-preserved g c =
    λ test says none.
    let here = says c.loop-i.i c.passes.result (omega arith) (omega arith) c.passes.ensures in
    none_next test c.loop-i.i (c.loop-i.invariant test says none) (sym here ∙ c.if-passes.false)

pub returns : goal.returns
returns g c = λ test says none. seek_end test c.args.to c.loop-i.i (c.loop-i.invariant test says none) (omega arith)
