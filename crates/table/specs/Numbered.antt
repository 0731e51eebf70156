-- Document 02, Item 3: beside any columns one more, which keeps the number of each slot's plan.
use Rattle.std.specs.Prelude.{ℕ, List, length, get_or, set, replicate}
use Rattle.plans.specs.declared.planned.Planned.{Planned}
use Rattle.plans.specs.Plans.{planned_of}
use Rattle.table.specs.Slots.{Columns, common}

pub record Numbered (C : Type 0) : Type 0 where
  pub table : C
  pub numbers : List ℕ

abbrev pub numbered_of : {C : Type 0} → C → List ℕ → Numbered C
numbered_of table numbers = record { table = table; numbers = numbers }

abbrev pub numbered : {C R : Type 0} → Columns C R → Columns (Numbered C) (Planned R)
numbered K =
    record {
      slots = λ t. common (K.slots t.table) (length t.numbers);
      ids = λ t. K.ids t.table;
      row = λ t i. planned_of (get_or t.numbers i 0) (K.row t.table i);
      newest = λ t. K.newest t.table;
      put = λ t i subscriber moment x.
          numbered_of (K.put t.table i subscriber moment x.held) (set t.numbers i x.number);
      zeros = λ t. numbered_of (K.zeros t.table) (replicate (length t.numbers) 0);
    }
