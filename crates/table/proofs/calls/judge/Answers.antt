-- `table::calls::judge` meets its contract: a check that applies, no slot, or the record in its slot, kept or spent from.
-- Assumes nothing.
use Rattle.std.proofs.Common.{◌≡◌, ℕ, Ok, sym, ap, ap₂, ◌∙◌, rules}
use Rattle.ticks.specs.declared.plan.Plan.{Plan}
use Rattle.plans.specs.Plans.{planned, Lending}
use Rattle.table.specs.Checks.{Gate, check_number, toll_of, request_check}
use Rattle.table.specs.Rule.{rule_of}
use Rattle.table.specs.Passed.{Asked}
use Rattle.table.specs.Seen.{sights}
use Rattle.table.specs.Lent.{asked_of, asks_of, slot_of}
use Rattle.table.specs.Calls.{toll}
use Rattle.table.proofs.Checks.{slots_least}
use Rattle.table.proofs.Judging.{request_asked, judges_refused, judges_at, judges_full}
use Rattle.table.proofs.Seen.{slot_some, slot_none, ruling_judged}
use Rattle.table.proofs.calls.judge.Given as given
use Rattle.table.proofs.calls.judge.Goals as goal
use Rattle.table.proofs.calls.judge.Goals.{After-request, After-slot_for}

says : (g : given.Over) (c : After-request g) →
    check_number c.request.result
    ≡ request_check (toll (rule_of (planned g.S.By.Engine.engine)) sights (asks_of c.args.request.now) (g.S.Slots.sight c.args.slots.now))
says g c =
    c.request.ensures
    ∙ ap₂ (λ (x : Gate) (m : ℕ). request_check (toll_of x m c.args.request.now.cost)) c.gate.ensures
    (ap (λ (p : Plan). p.burst) c.asked.ensures)

shown : (g : given.Over) (c : After-request g) → c.request.result ≡ Ok tt →
    Asked (toll (rule_of (planned g.S.By.Engine.engine)) sights (asks_of c.args.request.now) (g.S.Slots.sight c.args.slots.now)).gate
shown g c passed = request_asked _ (says g c) passed

lending : (g : given.Over) (c : After-request g) → c.request.result ≡ Ok tt →
    let q = asked_of c.args.request.now.query in Lending q.setting q.moment
lending g c passed = let a = shown g c passed in record { plans = a.plan; moment = a.moment }

pub returns-in-Err : goal.returns-in-Err
returns-in-Err g c =
    c.kept.ensures ∙ judges_refused _ sights _ (asks_of c.args.request.now) (says g (goal.at.returns-in-Err g c).After-request) c.in-Err.is

pub slot_for-requires-clause-table : goal.slot_for-requires-clause-table
slot_for-requires-clause-table g c = slots_least _ (shown g (goal.at.slot_for-requires-clause-table g c).After-request c.in_default.is).table

pub slot_for-requires-clause-lending : goal.slot_for-requires-clause-lending
slot_for-requires-clause-lending g c = lending g (goal.at.slot_for-requires-clause-lending g c).After-request c.in_default.is

pub returns-in_default-slot_for : goal.returns-in_default-slot_for
returns-in_default-slot_for g c =
    c.kept-in_default-slot_for.ensures
    ∙ judges_full _ sights _ (asks_of c.args.request.now) (says g (goal.at.returns-in_default-slot_for g c).After-request) c.in_default.is
    (sym c.slot_for.ensures ∙ ap (λ s. slot_of s) c.in_default-slot_for.is ∙ slot_none)

pub judge-judged-requires : goal.judge-judged-requires
judge-judged-requires g c = lending g (goal.at.judge-judged-requires g c).After-request c.in_default.is

pub returns : goal.returns
returns g c =
    ruling_judged c.in-Some.slot.place c.judge-judged.result.outcome c.judge-judged.result.«record» _ (search rules)
    ∙ judges_at _ sights _ (asks_of c.args.request.now) (says g (goal.at.returns g c).After-request) c.in_default.is
    (sym c.slot_for.ensures ∙ ap (λ s. slot_of s) c.in-Some.is ∙ slot_some _) c.judge-judged.ensures
