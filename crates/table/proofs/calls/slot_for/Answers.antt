-- `table::calls::slot_for` meets its contract: the own slot, or a newcomer's, or none.
-- Assumes nothing.
use Rattle.std.proofs.Common.{sym, ap, ◌∙◌}
use Rattle.plans.specs.declared.planned.Planned.{Planned}
use Rattle.plans.specs.Plans.{planned}
use Rattle.table.specs.Rule.{rule_of}
use Rattle.table.specs.Seen.{sights}
use Rattle.table.specs.Lent.{asked_of}
use Rattle.table.specs.Calls.{at}
use Rattle.table.proofs.Cases as cases
use Rattle.table.proofs.Judging.{own_within}
use Rattle.table.proofs.Seen.{slot_some, slot_none}
use Rattle.table.proofs.calls.slot_for.Goals as goal

pub row-requires : goal.row-requires
row-requires g c = own_within sights (g.S.Slots.sight c.args.slots.now) c.args.query.now.subscriber (sym c.find.ensures ∙ c.in-Some.is)

pub returns-in-Some : goal.returns-in-Some
returns-in-Some g c =
    let over = g.S.Slots.sight c.args.slots.now in
    slot_some _ ∙ ap (λ (r : Planned _). at c.in-Some.place r) c.row.ensures
    ∙ sym (cases.slot_own (rule_of (planned g.S.By.Engine.engine)) sights over (asked_of c.args.query.now) (sym c.find.ensures ∙ c.in-Some.is))

pub returns-in_err-place : goal.returns-in_err-place
returns-in_err-place g c =
    let over = g.S.Slots.sight c.args.slots.now in
    rw c.from_residual.ensures (slot_none
    ∙ sym (cases.slot_none (rule_of (planned g.S.By.Engine.engine)) sights over (asked_of c.args.query.now) (sym c.find.ensures ∙ c.in_default.is)
    (sym c.lowest_free.ensures ∙ c.in_err-place.was)))

pub returns : goal.returns
returns g c =
    let over = g.S.Slots.sight c.args.slots.now in
    slot_some _ ∙ ap (λ (r : Planned _). at c.in_ok-place.place r) c.fresh.ensures
    ∙ sym (cases.slot_new (rule_of (planned g.S.By.Engine.engine)) sights over (asked_of c.args.query.now) (sym c.find.ensures ∙ c.in_default.is)
    (sym c.lowest_free.ensures ∙ c.in_ok-place.was))
