-- `table::blocks::first_between` meets its contract: no place before i passes.
-- Assumes nothing.
use Rattle.std.proofs.Common.{◌≡◌, ℕ, Bool, ◌≤◌, ◌<◌}
use Rattle.table.specs.Slots.{NoneBelow}
use Rattle.table.proofs.blocks.first_between.Given as goal

abbrev pub invariant-loop-i : goal.invariant-loop-i
invariant-loop-i g l =
    (test : ℕ → Bool) → ((i : ℕ) (b : Bool) → l.from ≤ i → i < l.to → goal.F-post g l.passes i b → b ≡ test i) →
    NoneBelow test l.from → NoneBelow test l.i
