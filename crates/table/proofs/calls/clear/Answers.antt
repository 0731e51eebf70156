-- `table::calls::clear` meets its contract: all columns are zeros, or none is touched.
-- Assumes nothing.
use Rattle.std.proofs.Common.{◌≡◌, ℕ, sym, ap, ◌∙◌}
use Rattle.table.specs.Checks.{slots_ok}
use Rattle.table.proofs.Told.{clear_refuses, clear_zeros}
use Rattle.table.proofs.calls.clear.Given as given
use Rattle.table.proofs.calls.clear.Goals as goal
use Rattle.table.proofs.calls.clear.Goals.{After-is_slot_count}

-- whether there is a table
is_table : (g : given.Over) (c : After-is_slot_count g) →
    slots_ok (g.T.SlotsMut.columns.slots (g.T.SlotsMut.content c.args.table.now)) ≡ c.is_slot_count.result
is_table g c = ap (λ (n : ℕ). slots_ok n) (sym c.count.ensures) ∙ sym c.is_slot_count.ensures

pub returns-then-not-is_slot_count : goal.returns-then-not-is_slot_count
returns-then-not-is_slot_count g c =
    let told =
    clear_refuses g.T.SlotsMut.columns (g.T.SlotsMut.content c.args.table.now)
    (is_table g (goal.at.returns-then-not-is_slot_count g c).After-is_slot_count ∙ c.if-not-is_slot_count.true) in
    record { loan = g.met.T.SlotsMut.stays_lent c.args.table.now; answer = told.0; table_after = told.1 }

pub returns : goal.returns
returns g c =
    let told =
    clear_zeros g.T.SlotsMut.columns (g.T.SlotsMut.content c.args.table.now)
    (is_table g (goal.at.returns g c).After-is_slot_count ∙ c.if-not-is_slot_count.false) in
    record { loan = c.zero.ensures.loan; answer = told.0; table_after = c.zero.ensures.after ∙ told.1 }
