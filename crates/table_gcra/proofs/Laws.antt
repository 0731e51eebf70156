-- The laws of this table hold.
-- Assumes nothing.
use mathlib.Core.Path.{refl}
use Rattle.table_gcra.specs.Table.{records}
use Rattle.table_gcra.specs.Laws.{TableLaws}
use Rattle.table_gcra.proofs.Columns.{gcra_stored}
use Rattle.table_gcra.proofs.Worked as examples

pub table_laws : TableLaws
unfolding records
table_laws =
    record {
      stored = gcra_stored;
      slots_are = λ t. refl;
      row_is = λ t i. refl;
      put_is = λ t i subscriber moment held. refl;
      zeros_are = λ t. refl;
      worked = examples.worked;
    }
