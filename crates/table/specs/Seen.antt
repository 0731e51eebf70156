-- What a call reads of the columns, and no more: how many slots, the subscribers' numbers, the records; beside them the newest moment.
use Rattle.std.specs.Prelude.{ℕ, List}
use Rattle.table.specs.Slots.{Columns}

pub record Seen (R : Type 0) : Type 0 where
  pub slots : ℕ
  pub ids : List ℕ
  pub row : ℕ → R

-- what is read of any columns
abbrev pub seen_of : {C R : Type 0} → Columns C R → C → Seen R
seen_of K c = record { slots = K.slots c; ids = K.ids c; row = λ i. K.row c i }

-- .. with the newest moment
pub record Sight (R : Type 0) : Type 0 where
  pub seen : Seen R
  pub newest : ℕ

abbrev pub sight_of : {R : Type 0} → Seen R → ℕ → Sight R
sight_of seen newest = record { seen = seen; newest = newest }

abbrev pub sight_in : {C R : Type 0} → Columns C R → C → Sight R
sight_in K c = sight_of (seen_of K c) (K.newest c)

-- columns that are only read: nothing is written to them
abbrev pub sights : {R : Type 0} → Columns (Sight R) R
sights =
    record {
      slots = λ s. s.seen.slots;
      ids = λ s. s.seen.ids;
      row = λ s i. s.seen.row i;
      newest = λ s. s.newest;
      put = λ s i subscriber moment held. s;
      zeros = λ s. s;
    }
