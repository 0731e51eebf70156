-- What columns keep: a slot that was written reads back, the others are as they were, and their number stays; the newest moment
-- is that of the last admission, and 0 once all are zeros.
use Rattle.std.specs.Prelude.{◌≡◌, ℕ, ◌≤◌, ◌<◌, length, set, replicate}
use Rattle.table.specs.Slots.{Columns}

pub record Stored {C R : Type 0} (K : Columns C R) : Type 0 where
  pub ids_length : (c : C) → 1 ≤ K.slots c → length (K.ids c) ≡ K.slots c
  pub slots_put : (c : C) (i subscriber moment : ℕ) (held : R) → K.slots (K.put c i subscriber moment held) ≡ K.slots c
  pub ids_put : (c : C) (i subscriber moment : ℕ) (held : R) → K.ids (K.put c i subscriber moment held) ≡ set (K.ids c) i subscriber
  pub row_same : (c : C) (i subscriber moment : ℕ) (held : R) → i < K.slots c → K.row (K.put c i subscriber moment held) i ≡ held
  pub row_other :
      (c : C) (i j subscriber moment : ℕ) (held : R) → (j ≡ i → ⊥) → K.row (K.put c i subscriber moment held) j ≡ K.row c j
  pub newest_put : (c : C) (i subscriber moment : ℕ) (held : R) → K.newest (K.put c i subscriber moment held) ≡ moment
  pub slots_zeros : (c : C) → K.slots (K.zeros c) ≡ K.slots c
  pub ids_zeros : (c : C) → K.ids (K.zeros c) ≡ replicate (length (K.ids c)) 0
  pub newest_zeros : (c : C) → K.newest (K.zeros c) ≡ 0
