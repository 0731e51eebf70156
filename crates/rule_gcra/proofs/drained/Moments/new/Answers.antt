-- `rule_gcra::drained::Moments::new` meets its contract: the column has every plan before i.
-- Assumes nothing.
use native.Mathlib.Omega.{arith}
use mathlib.Core.Path.{refl, ◌∙◌}
use lib.ListN.{length-set}
use Rattle.plans.specs.Lent.{plans_in}
use Rattle.rule_gcra.proofs.Freeing.{drained_next}
use Rattle.rule_gcra.proofs.drained.Moments.new.Goals as goal

pub loop-i-init : goal.loop-i-init
loop-i-init c = (λ k h. absurd (omega arith), refl)

pub overflow_cast-i : goal.overflow_cast-i
overflow_cast-i c = omega (arith, c.loop-i-test.true, c.count-lent.ensures, c.requires)

pub bounds-column-i : goal.bounds-column-i
bounds-column-i c = omega (arith, c.loop-i-test.true, c.count-lent.ensures, c.requires)

pub loop-i-preserved : goal.loop-i-preserved
loop-i-preserved c = (
  drained_next (plans_in c.args.plans.now) c.args.moment.0 c.loop-i.column c.loop-i.i c.loop-i.invariant.0
      (omega (arith, c.loop-i-test.true, c.count-lent.ensures, c.requires, c.loop-i.invariant.1)) c.ticks_in-ticks.ensures c.plan_at.ensures,
  length-set c.loop-i.column c.loop-i.i _ ∙ c.loop-i.invariant.1,
)

pub returns-clause-column : goal.returns-clause-column
returns-clause-column c = record { each = λ k h. c.loop-i.invariant.0 k (omega (arith, h, c.count-lent.ensures, c.loop-i-test.false)) }
