-- `plans::nth` meets its contract: the three numbers of a plan that is lent lie within the slice.
-- Assumes nothing.
use native.Mathlib.Omega.{arith}
use mathlib.Core.Path.{sym}
use Rattle.plans.proofs.Lent.{lent_within, lent_at}
use Rattle.plans.proofs.nth.Goals as goal

pub overflow_mul-first : goal.overflow_mul-first
overflow_mul-first c = omega (arith, lent_within c.args.plans.now c.args.place c.requires)

pub offset_bounds-plans-first : goal.offset_bounds-plans-first
offset_bounds-plans-first c = omega (arith, lent_within c.args.plans.now c.args.place c.requires)

pub bounds-plans-first : goal.bounds-plans-first
bounds-plans-first c = omega (arith, lent_within c.args.plans.now c.args.place c.requires)

pub overflow_add-result : goal.overflow_add-result
overflow_add-result c = omega (arith, lent_within c.args.plans.now c.args.place c.requires)

pub offset_bounds-plans-first-2 : goal.offset_bounds-plans-first-2
offset_bounds-plans-first-2 c = omega (arith, lent_within c.args.plans.now c.args.place c.requires)

pub bounds-plans-first-2 : goal.bounds-plans-first-2
bounds-plans-first-2 c = omega (arith, lent_within c.args.plans.now c.args.place c.requires)

pub overflow_add-result-2 : goal.overflow_add-result-2
overflow_add-result-2 c = omega (arith, lent_within c.args.plans.now c.args.place c.requires)

pub offset_bounds-plans-first-3 : goal.offset_bounds-plans-first-3
offset_bounds-plans-first-3 c = omega (arith, lent_within c.args.plans.now c.args.place c.requires)

pub bounds-plans-first-3 : goal.bounds-plans-first-3
bounds-plans-first-3 c = omega (arith, lent_within c.args.plans.now c.args.place c.requires)

pub returns : goal.returns
returns c = sym (lent_at c.args.plans.now c.args.place c.requires)
