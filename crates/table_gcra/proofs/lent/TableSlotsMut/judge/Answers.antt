-- `table_gcra::lent::TableSlotsMut::judge` meets its contract: an ask goes by what is read of the columns.
-- Assumes nothing.
use Rattle.std.proofs.Common.{ap, ◌∙◌}
use Rattle.table.specs.Seen.{sight_in, sights}
use Rattle.table.specs.Lent.{asks_of}
use Rattle.table.specs.Calls.{judge_call}
use Rattle.table.proofs.Seen.{judge_seen}
use Rattle.table_gcra.specs.Table.{Table, table_in, columns, rule}
use Rattle.table_gcra.proofs.lent.TableSlotsMut.judge.Goals as goal

pub returns : goal.returns
returns c =
    let request = asks_of c.args.request.now in
    c.judge.ensures ∙ ap (λ (t : Table). judge_call rule sights request (sight_in columns t)) c.lent.ensures
    ∙ judge_seen rule columns (table_in c.args.self.now) request
