-- `table::blocks::skip_blocks` meets its contract: no place before `at` passes.
-- Assumes nothing.
use Rattle.std.proofs.Common.{ℕ, Bool, false, ◌+◌, ◌≤◌, ◌-◌}
use Rattle.table.specs.Slots.{NoneFrom}
use Rattle.table.proofs.blocks.skip_blocks.Given as goal

abbrev pub invariant-loop-at : goal.invariant-loop-at
invariant-loop-at g l =
    ((l.from ≤ l.at) × (l.at ≤ l.slots))
    × ((test : ℕ → Bool) →
    ((at : ℕ) → l.from ≤ at → at + g.row.SIZE ≤ l.slots → goal.F-post g l.may at false → NoneFrom test at (at + g.row.SIZE)) →
    NoneFrom test l.from l.at)

abbrev pub decreases-loop-at : goal.decreases-loop-at
decreases-loop-at g l = l.slots - l.at
