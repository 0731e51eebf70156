-- What a run stores, as its table.
use Rattle.std.specs.Prelude.{◌≡◌}
use Rattle.table_gcra.specs.Table.{Table, table_of}
use Rattle.text_session.specs.declared.store.Store.{Store}

-- the table that is lent
abbrev pub table_in : Store → Table
table_in s = table_of s.ids.now s.numbers.now s.tats.now s.newest.now

-- what is lent stays so: the same columns, and the same newest moment
pub record SameLoan (s s' : Store) : Type 0 where
  pub same_ids : s'.ids.ghost_name ≡ s.ids.ghost_name
  pub same_numbers : s'.numbers.ghost_name ≡ s.numbers.ghost_name
  pub same_tats : s'.tats.ghost_name ≡ s.tats.ghost_name
  pub same_newest : s'.newest.ghost_name ≡ s.newest.ghost_name
