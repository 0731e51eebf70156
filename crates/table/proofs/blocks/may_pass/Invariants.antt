-- `table::blocks::may_pass` meets its contract: the flag is raised wherever a place may pass.
-- Assumes nothing.
use Rattle.std.proofs.Common.{◌≡◌, ℕ, Bool, false, ◌≤◌, ◌<◌}
use Rattle.table.specs.Slots.{NoneFrom}
use Rattle.table.proofs.blocks.may_pass.Given as goal

abbrev pub invariant-loop-i : goal.invariant-loop-i
invariant-loop-i g l =
    (test : ℕ → Bool) → ((i : ℕ) → l.from ≤ i → i < l.to → goal.F-post g l.may i false → test i ≡ false) →
    l.any ≡ false → NoneFrom test l.from l.i
