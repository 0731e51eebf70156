-- `plans::are_ok` meets its contract: `ok` says whether every plan before i is good.
-- Assumes nothing.
use mathlib.Core.Path.{◌≡◌}
use Rattle.plans.specs.Lent.{plans_in}
use Rattle.plans.proofs.Lent.{good_to}
use Rattle.plans.proofs.are_ok.Given as goal

abbrev pub invariant-loop-i : goal.invariant-loop-i
invariant-loop-i l = l.ok ≡ good_to (plans_in l.plans) l.i
