-- `table_gcra::lent::ColumnsSlots::find` meets its contract: all slots are searched.
-- Assumes nothing.
use Rattle.std.proofs.Common.{refl, sym}
use Rattle.table.specs.Seen.{sight_in, sights}
use Rattle.table.proofs.Judging.{own_found}
use Rattle.table_gcra.specs.Table.{records, lent_of, columns}
use Rattle.table_gcra.proofs.Columns.{equal}
use Rattle.table_gcra.proofs.lent.ColumnsSlots.find.Goals as goal

pub returns : goal.returns
unfolding records
returns c =
    let t = lent_of c.args.self.now in
    sym (own_found sights (sight_in columns t) (sym (equal t c.requires).ids) c.args.subscriber c.find.ensures refl)
