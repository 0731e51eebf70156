-- `table::calls::acquire` meets its contract: one slot is written, or nothing.
-- Assumes nothing.
use Rattle.std.proofs.Common.{◌∙◌}
use Rattle.table.specs.Lent.{asks_of}
use Rattle.table.proofs.Told.{acquire_keeps, acquire_place, acquire_number, acquire_writes}
use Rattle.table.proofs.calls.acquire.Goals as goal

pub put-requires-clause-place_in_bounds : goal.put-requires-clause-place_in_bounds
put-requires-clause-place_in_bounds g c =
    rw c.in-Some.is
    (acquire_place g.T.By.Engine.engine g.T.SlotsMut.columns (asks_of c.args.request.now) (g.T.SlotsMut.content c.args.table.now)
    c.judge-ruling.result c.judge-ruling.ensures c.in-Some.is)

pub put-requires-clause-number_fits : goal.put-requires-clause-number_fits
put-requires-clause-number_fits g c =
    rw c.in-Some.is
    (acquire_number g.T.By.Engine.engine g.T.SlotsMut.columns (asks_of c.args.request.now) (g.T.SlotsMut.content c.args.table.now)
    c.judge-ruling.result c.judge-ruling.ensures c.in-Some.is)

pub returns-clause-loan : goal.returns-clause-loan
returns-clause-loan g c = c.put.ensures.loan

pub returns-clause-answer : goal.returns-clause-answer
returns-clause-answer g c =
    (acquire_writes g.T.By.Engine.engine g.T.SlotsMut.columns (asks_of c.args.request.now) (g.T.SlotsMut.content c.args.table.now)
    c.judge-ruling.result c.judge-ruling.ensures c.in-Some.is).0

pub returns-clause-table_after : goal.returns-clause-table_after
returns-clause-table_after g c =
    let told =
    acquire_writes g.T.By.Engine.engine g.T.SlotsMut.columns (asks_of c.args.request.now) (g.T.SlotsMut.content c.args.table.now)
    c.judge-ruling.result c.judge-ruling.ensures c.in-Some.is in
    c.put.ensures.after
    ∙ rw c.in-Some.is told.1

pub returns-in_default : goal.returns-in_default
returns-in_default g c =
    let told =
    acquire_keeps g.T.By.Engine.engine g.T.SlotsMut.columns (asks_of c.args.request.now) (g.T.SlotsMut.content c.args.table.now)
    c.judge-ruling.result c.judge-ruling.ensures c.in_default.is in
    record { loan = g.met.T.SlotsMut.stays_lent c.args.table.now; answer = told.0; table_after = told.1 }
