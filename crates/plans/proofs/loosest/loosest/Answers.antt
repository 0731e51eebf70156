-- `plans::loosest::loosest` meets its contract: it is looser than every plan before i.
-- Assumes nothing.
use native.Mathlib.Omega.{arith}
use mathlib.Core.Path.{sym, subst}
use Rattle.ticks.specs.declared.plan.Plan.{Plan}
use Rattle.ticks.specs.Grains.{WithinLimits}
use Rattle.plans.specs.Lent.{plans_in}
use Rattle.plans.proofs.Bounds.{looser_first, looser_next}
use Rattle.plans.proofs.loosest.loosest.Goals as goal

pub nth-loosest-requires : goal.nth-loosest-requires
nth-loosest-requires c = c.requires.least

pub loop-i-init : goal.loop-i-init
loop-i-init c =
    let ps = plans_in c.args.plans.now in (
      looser_first ps c.nth-loosest.ensures,
      subst (λ (p : Plan). WithinLimits p) (sym c.nth-loosest.ensures) (c.requires.each 0 (omega (arith, c.requires.least))),
    )

pub nth-requires : goal.nth-requires
nth-requires c = omega (arith, c.loop-i-test.true, c.count-lent.ensures)

pub loop-i-preserved : goal.loop-i-preserved
loop-i-preserved c =
    let ps = plans_in c.args.plans.now in
    let here = c.nth.ensures in
    let fine = subst (λ (p : Plan). WithinLimits p) (sym here) (c.requires.each c.loop-i.i (omega (arith, c.count-lent.ensures, c.loop-i-test.true))) in (
      looser_next ps c.loop-i.i c.looser-loosest.result c.loop-i.invariant.0 here c.looser-loosest.ensures.looser.0 c.looser-loosest.ensures.looser.1,
      c.looser-loosest.ensures.within_limits c.loop-i.invariant.1 fine,
    )

pub returns : goal.returns
returns c =
    record {
      within_limits = c.loop-i.invariant.1;
      looser = λ k h. c.loop-i.invariant.0 k (omega (arith, h, c.count-lent.ensures, c.loop-i-test.false));
    }
