-- The laws of this table: which column holds what, number by number, and document 01's examples. What a host may rely on in any call
-- is said of both engines at once (`law_calls`, specs/Laws), since these columns keep what is written (`Stored`, table).
use Rattle.std.specs.Prelude.{ℕ, ◌≡◌, [], ◌∷◌, length, get_or, set, replicate}
use Rattle.ticks.specs.declared.units.Ticks.{Ticks}
use Rattle.plans.specs.declared.planned.Planned.{Planned}
use Rattle.plans.specs.Plans.{planned_of}
use Rattle.table.specs.Slots.{common}
use Rattle.table.specs.Stored.{Stored}
use Rattle.table.specs.Worked.{examples, expected}
use Rattle.table_gcra.specs.Table.{Table, table_of, columns, rule}

pub record TableLaws : Type 0 where
  pub stored : Stored columns
  -- as many slots as all columns are long
  pub slots_are :
      (t : Table) → columns.slots t ≡ common (common (length t.table.ids) (length t.table.tats)) (length t.numbers)
  -- a slot's record is the number of its plan, and its TAT
  pub row_is : (t : Table) (i : ℕ) → columns.row t i ≡ planned_of (get_or t.numbers i 0) (record { 0 = get_or t.table.tats i 0 })
  -- an admission writes the slot's number, plan number and TAT, and its moment
  pub put_is :
      (t : Table) (i subscriber moment : ℕ) (held : Planned Ticks) →
      columns.put t i subscriber moment held
      ≡ table_of (set t.table.ids i subscriber) (set t.numbers i held.number) (set t.table.tats i held.held.0) moment
  -- a clear makes all of them 0
  pub zeros_are :
      (t : Table) →
      columns.zeros t
      ≡ table_of (replicate (length t.table.ids) 0) (replicate (length t.numbers) 0) (replicate (length t.table.tats) 0) 0
  -- document 01's examples, whatever the cleared slot held before
  pub worked :
      (id number tat newest : ℕ) → examples rule columns (table_of (id ∷ []) (number ∷ []) (tat ∷ []) newest) ≡ expected
