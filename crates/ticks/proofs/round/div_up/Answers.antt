-- `ticks::round::div_up` meets its contract: each return has its law.
-- Assumes nothing.
use Rattle.std.proofs.Common.{ℕ, ◌-◌, sym, ap, ◌∙◌, div-le_self, arith, rules}
use Rattle.ticks.specs.Grains.{div_up}
use Rattle.ticks.proofs.Rounding.{div_up_by_zero, div_up_zero, div_up_positive}
use Rattle.std.proofs.Common.{rules}
use Rattle.ticks.proofs.round.div_up.Goals as goal

pub returns-then-d-eq0 : goal.returns-then-d-eq0
returns-then-d-eq0 c =
    let a = c.args.a in
    sym (ap (λ (d : ℕ). div_up a d) c.if-d-eq0.true ∙ div_up_by_zero a)

pub returns-then-a-eq0 : goal.returns-then-a-eq0
returns-then-a-eq0 c =
    let args = c.args in
    sym (ap (λ (a : ℕ). div_up a args.d) c.if-a-eq0.true ∙ div_up_zero args.d)

pub overflow_add-result : goal.overflow_add-result
overflow_add-result c =
    let args = c.args in
    omega (arith, div-le_self (args.a - 1) args.d)

pub returns : goal.returns
returns c =
    let args = c.args in
    sym (div_up_positive args.a args.d (search rules) (search rules))
