-- `table::check::request` meets its contract: checks 1 to 4 first, then each return is one of its numbers.
-- Assumes nothing.
use Rattle.std.proofs.lemmas.Result.{err_from_is_err_and}
use mathlib.Core.Path.{sym, ap, ◌∙◌}
use Prim.Native.Nat.{ℕ}
use lib.Dec.{eqb}
use borrow.Author.Tests.{eq-eqb, ne_eqb, lt-ltb, le-ltb}
use Rattle.rate.proofs.Answers.{zero_cost, cost_above_burst, refuses}
use Rattle.std.specs.Prelude.{Result}
use Rattle.rate.specs.declared.answer.Reason.{Reason}
use Rattle.table.specs.Checks.{check_number}
use Rattle.table.specs.Lent.{toll_in}
use Rattle.table.proofs.Checks.{query_first, number_5, number_6, passes}
use Rattle.std.proofs.Common.{ap}
use Rattle.table.proofs.check.request.Goals as goal

pub returns-in_err-query : goal.returns-in_err-query
unfolding check_number
returns-in_err-query c =
    let S = c.args in
    let r = toll_in S.toll in
    let failed = sym c.query.ensures ∙ ap (λ (k : Result (Unit {0}) Reason). check_number k) c.in_err-query.was in
    let number = ap (λ (n : ℕ). eqb n 0) failed ∙ refuses _ in
    let p = err_from_is_err_and c.from_residual.result c.from_residual.ensures.1 in
    rw (p.1, p.2) (sym (query_first r number ∙ failed))

pub returns-then-toll-eq0 : goal.returns-then-toll-eq0
unfolding check_number
returns-then-toll-eq0 c =
    let S = c.args in
    let r = toll_in S.toll in
    let passed = sym c.query.ensures ∙ ap (λ (k : Result (Unit {0}) Reason). check_number k) c.in_ok-query.was in
    zero_cost ∙ sym (number_5 r passed (eq-eqb S.toll.cost 0 c.if-toll-eq0.true))

pub returns-then-toll : goal.returns-then-toll
unfolding check_number
returns-then-toll c =
    let S = c.args in
    let r = toll_in S.toll in
    let passed = sym c.query.ensures ∙ ap (λ (k : Result (Unit {0}) Reason). check_number k) c.in_ok-query.was in
    let cost = ne_eqb S.toll.cost 0 c.if-toll-eq0.false in
    cost_above_burst ∙ sym (number_6 r passed cost (lt-ltb S.toll.most S.toll.cost c.if-toll.true))

pub returns : goal.returns
unfolding check_number
returns c =
    let S = c.args in
    let r = toll_in S.toll in
    let passed = sym c.query.ensures ∙ ap (λ (k : Result (Unit {0}) Reason). check_number k) c.in_ok-query.was in
    let cost = ne_eqb S.toll.cost 0 c.if-toll-eq0.false in
    sym (passes r passed cost (le-ltb S.toll.most S.toll.cost c.if-toll.false))
