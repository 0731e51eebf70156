-- `table::calls::peek` meets its contract: a check that applies, the own record, or a fresh one; it names the subscriber asked for.
-- Assumes nothing.
use Rattle.std.proofs.Common.{◌≡◌, refl, Ok, sym, ap, ◌∙◌}
use Rattle.plans.specs.Plans.{planned, Lending}
use Rattle.table.specs.Checks.{Gate, check_number, query_check}
use Rattle.table.specs.Rule.{rule_of}
use Rattle.table.specs.Passed.{Asked}
use Rattle.table.specs.Slots.{own}
use Rattle.table.specs.Seen.{sights}
use Rattle.table.specs.Lent.{asked_of}
use Rattle.table.specs.Calls.{gate}
use Rattle.table.proofs.Checks.{slots_least}
use Rattle.table.proofs.Judging.{query_asked, own_within, peeks_refused, peeks_own, peeks_fresh, peek_told}
use Rattle.table.proofs.calls.peek.Given as given
use Rattle.table.proofs.calls.peek.Goals as goal
use Rattle.table.proofs.calls.peek.Goals.{After-query}

says : (g : given.Over) (c : After-query g) →
    check_number c.query.result
    ≡ query_check (gate (rule_of (planned g.S.By.Engine.engine)) sights (asked_of c.args.query.now) (g.S.Slots.sight c.args.slots.now))
says g c = c.query.ensures ∙ ap (λ (x : Gate). query_check x) c.gate.ensures

shown : (g : given.Over) (c : After-query g) → c.query.result ≡ Ok tt →
    Asked (gate (rule_of (planned g.S.By.Engine.engine)) sights (asked_of c.args.query.now) (g.S.Slots.sight c.args.slots.now))
shown g c passed = query_asked _ (says g c) passed

pub returns-in-Err : goal.returns-in-Err
returns-in-Err g c = peek_told _ sights _ (asked_of c.args.query.now) _ (peeks_refused _ sights _ _ (says g (goal.at.returns-in-Err g c).After-query) c.in-Err.is)

pub find-requires : goal.find-requires
find-requires g c = slots_least _ (shown g (goal.at.find-requires g c).After-query c.in_default.is).table

lending : (g : given.Over) (c : After-query g) → c.query.result ≡ Ok tt →
    Lending (asked_of c.args.query.now).setting (asked_of c.args.query.now).moment
lending g c passed = let a = shown g c passed in record { plans = a.plan; moment = a.moment }

pub report_fresh-requires : goal.report_fresh-requires
report_fresh-requires g c = lending g (goal.at.report_fresh-requires g c).After-query c.in_default.is

pub returns-in_default-find : goal.returns-in_default-find
unfolding own
returns-in_default-find g c =
    let U = rule_of (planned g.S.By.Engine.engine) in
    let over = g.S.Slots.sight c.args.slots.now in
    let asks = asked_of c.args.query.now in
    peek_told U sights over asks _
    (peeks_fresh U sights over asks (says g (goal.at.returns-in_default-find g c).After-query) c.in_default.is
    (sym c.find.ensures ∙ c.in_default-find.is) refl c.report_fresh.ensures)

pub row-held-requires : goal.row-held-requires
row-held-requires g c = own_within sights (g.S.Slots.sight c.args.slots.now) c.args.query.now.subscriber (sym c.find.ensures ∙ c.in-Some.is)

pub report-requires : goal.report-requires
report-requires g c = lending g (goal.at.report-requires g c).After-query c.in_default.is

pub returns : goal.returns
unfolding own
returns g c =
    let U = rule_of (planned g.S.By.Engine.engine) in
    let over = g.S.Slots.sight c.args.slots.now in
    let asks = asked_of c.args.query.now in
    peek_told U sights over asks _
    (peeks_own U sights over asks (says g (goal.at.returns g c).After-query) c.in_default.is
    (sym c.find.ensures ∙ c.in-Some.is) c.row-held.ensures c.report.ensures)
