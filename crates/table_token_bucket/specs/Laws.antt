-- The laws of this table: which column holds what, number by number, and document 01's examples. What a host may rely on in any call
-- is said of both engines at once (`law_calls`, specs/Laws), since these columns keep what is written (`Stored`, table).
use Rattle.std.specs.Prelude.{ℕ, ◌≡◌, [], ◌∷◌, length, get_or, set, replicate}
use Rattle.plans.specs.declared.planned.Planned.{Planned}
use Rattle.plans.specs.Plans.{planned_of}
use Rattle.rule_token_bucket.specs.declared.Bucket.{Bucket}
use Rattle.table.specs.Slots.{common}
use Rattle.table.specs.Stored.{Stored}
use Rattle.table.specs.Worked.{examples, expected}
use Rattle.table_token_bucket.specs.Table.{Table, table_of, columns, rule}

pub record TableLaws : Type 0 where
  pub stored : Stored columns
  -- as many slots as all columns are long
  pub slots_are :
      (t : Table) →
      columns.slots t
      ≡ common (common (common (length t.table.ids) (length t.table.levels)) (length t.table.lasts)) (length t.numbers)
  -- a slot's record is the number of its plan, its level and the moment of its last admission
  pub row_is :
      (t : Table) (i : ℕ) →
      columns.row t i
      ≡ planned_of (get_or t.numbers i 0)
      (record { level = record { 0 = get_or t.table.levels i 0 }; last = record { 0 = get_or t.table.lasts i 0 } })
  -- an admission writes the slot's number, plan number, level and moment, and its moment as the newest
  pub put_is :
      (t : Table) (i subscriber moment : ℕ) (held : Planned Bucket) →
      columns.put t i subscriber moment held
      ≡ table_of (set t.table.ids i subscriber) (set t.numbers i held.number) (set t.table.levels i held.held.level.0)
      (set t.table.lasts i held.held.last.0) moment
  -- a clear makes all of them 0
  pub zeros_are :
      (t : Table) →
      columns.zeros t
      ≡ table_of (replicate (length t.table.ids) 0) (replicate (length t.numbers) 0) (replicate (length t.table.levels) 0)
      (replicate (length t.table.lasts) 0) 0
  -- document 01's examples, whatever the cleared slot held before
  pub worked :
      (id number level last newest : ℕ) →
      examples rule columns (table_of (id ∷ []) (number ∷ []) (level ∷ []) (last ∷ []) newest) ≡ expected
