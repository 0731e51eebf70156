-- `rule_gcra::drained::Moments::new` meets its contract: the column has every plan before i.
-- Assumes nothing.
use mathlib.Core.Path.{◌≡◌}
use lib.ListN.{length}
use Rattle.plans.specs.Lent.{plans_in}
use Rattle.rule_gcra.proofs.Freeing.{DrainedTo}
use Rattle.rule_gcra.proofs.drained.Moments.new.Given as goal

abbrev pub invariant-loop-i : goal.invariant-loop-i
invariant-loop-i l = DrainedTo (plans_in l.plans) l.moment.0 l.column l.i × (length l.column ≡ 16)
