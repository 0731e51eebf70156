-- `plans::are_ok` meets its contract: `ok` says whether every plan before i is good.
-- Assumes nothing.
use native.Mathlib.Omega.{arith}
use mathlib.Core.Path.{◌≡◌, ap, ◌∙◌}
use mathlib.Core.Bool.{Bool, ◌&&◌}
use Prim.Native.Nat.{ℕ, suc, ◌+◌}
use lib.ListN.{length}
use Rattle.plans.specs.Lent.{plans_in}
use Rattle.plans.proofs.Lent.{good_to, good_none, good_next, good_all, lent_too_few, lent_too_many, lent_ok_lem}
use Rattle.plans.proofs.are_ok.Goals as goal

pub returns-then-lent-lt1 : goal.returns-then-lent-lt1
returns-then-lent-lt1 c = lent_too_few (plans_in c.args.plans.now) (omega (arith, c.count-lent.ensures, c.if-lent-lt1.true))

pub returns-then-lent-gt-MOST_PLANS : goal.returns-then-lent-gt-MOST_PLANS
returns-then-lent-gt-MOST_PLANS c =
    let n = c.count-lent.ensures in
    lent_too_many (plans_in c.args.plans.now) (omega (arith, n, c.if-lent-lt1.false)) (omega (arith, n, c.if-lent-gt-MOST_PLANS.true))

pub nth-requires : goal.nth-requires
nth-requires c = omega (arith, c.if-lent-eq1.true, c.count-lent.ensures)

pub returns-then-lent-eq1 : goal.returns-then-lent-eq1
returns-then-lent-eq1 c =
    let ps = plans_in c.args.plans.now in
    let n = c.count-lent.ensures in
    let all : 1 ≡ length ps = omega (arith, n, c.if-lent-eq1.true) in
    lent_ok_lem ps (omega (arith, n, c.if-lent-lt1.false)) (omega (arith, n, c.if-lent-gt-MOST_PLANS.false))
    (c.is_ok.ensures ∙ good_next ps 0 (good_none ps) c.nth.ensures ∙ ap (λ (i : ℕ). good_to ps i) all ∙ good_all ps)

pub loop-i-init : goal.loop-i-init
loop-i-init c = good_none (plans_in c.args.plans.now)

pub nth-requires-in-loop-i : goal.nth-requires-in-loop-i
nth-requires-in-loop-i c = omega (arith, c.loop-i-test.true, c.count-lent.ensures)

pub loop-i-preserved : goal.loop-i-preserved
loop-i-preserved c =
    let ps = plans_in c.args.plans.now in
    let next : suc c.loop-i.i ≡ c.loop-i.i + 1 = omega arith in
    ap (λ (b : Bool). c.loop-i.ok && b) c.is_ok-ok.ensures
    ∙ good_next ps c.loop-i.i c.loop-i.invariant c.nth-in-loop-i.ensures
    ∙ ap (λ (i : ℕ). good_to ps i) next

pub returns : goal.returns
returns c =
    let ps = plans_in c.args.plans.now in
    let n = c.count-lent.ensures in
    let all : c.loop-i.i ≡ length ps = omega (arith, n, c.loop-i-test.false) in
    lent_ok_lem ps (omega (arith, n, c.if-lent-lt1.false)) (omega (arith, n, c.if-lent-gt-MOST_PLANS.false))
    (c.loop-i.invariant ∙ ap (λ (i : ℕ). good_to ps i) all ∙ good_all ps)
