-- `plans::loosest::loosest` meets its contract: it is looser than every plan before i.
-- Assumes nothing.
use Rattle.ticks.specs.Grains.{WithinLimits}
use Rattle.plans.specs.Lent.{plans_in}
use Rattle.plans.proofs.Bounds.{LooserTo}
use Rattle.plans.proofs.loosest.loosest.Given as goal

abbrev pub invariant-loop-i : goal.invariant-loop-i
invariant-loop-i l = LooserTo (plans_in l.plans) l.loosest l.i × WithinLimits l.loosest
