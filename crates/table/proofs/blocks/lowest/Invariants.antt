-- `table::blocks::lowest` meets its contract: no place before `at` passes.
-- Assumes nothing.
use Rattle.std.proofs.Common.{◌≡◌, ℕ, Bool, false, ◌+◌, ◌≤◌, ◌<◌, ◌-◌}
use Rattle.table.specs.Slots.{NoneFrom, NoneBelow}
use Rattle.table.proofs.blocks.lowest.Given as goal

abbrev pub invariant-loop-lowest : goal.invariant-loop-lowest
invariant-loop-lowest g l =
    (l.at ≤ l.slots)
    × ((test : ℕ → Bool) →
    ((at : ℕ) → at + g.row.SIZE ≤ l.slots → goal.Q-post g l.quick at false → NoneFrom test at (at + g.row.SIZE)) →
    ((at : ℕ) → at + g.row.SIZE ≤ l.slots → goal.C-post g l.closer at false → NoneFrom test at (at + g.row.SIZE)) →
    ((i : ℕ) (b : Bool) → i < l.slots → goal.P-post g l.passes i b → b ≡ test i) →
    NoneBelow test l.at)

abbrev pub decreases-loop-lowest : goal.decreases-loop-lowest
decreases-loop-lowest g l = l.slots - l.at
