-- The columns of the GCRA engine keep what is written.
-- Assumes nothing.
use mathlib.Core.Path.{◌≡◌, refl, sym, ap₂, ◌∙◌}
use Prim.Native.Nat.{ℕ, ◌≤◌, ◌<◌}
use native.Mathlib.Omega.{arith}
use lib.ListN.{length, replicate, length-set, length-replicate}
use lib.Seq.{get_or-set_same, get_or-set_other}
use Rattle.ticks.specs.declared.units.Ticks.{Ticks}
use Rattle.table.specs.Slots.{common}
use Rattle.table.specs.Stored.{Stored}
use Rattle.table.proofs.Numbered.{numbered_stored}
use Rattle.table.proofs.Slots.{common_equal, common_same, common_least}
use Rattle.table_gcra.specs.Table.{Records, records, Table, columns}

-- a cleared table carries nobody
ids_zeros : (t : Records) → records.ids (records.zeros t) ≡ replicate (length t.ids) 0
unfolding records
ids_zeros t = refl

-- the place of a slot lies within both columns
in_both : (t : Records) (i : ℕ) → i < records.slots t → (i < length t.ids) × (i < length t.tats)
unfolding records
in_both t i h =
    let equal = common_equal (length t.ids) (length t.tats) (omega arith) in
    let count = common_same (length t.ids) (length t.tats) equal in
    (omega arith, omega arith)

ids_length : (t : Records) → 1 ≤ records.slots t → length t.ids ≡ records.slots t
unfolding records
ids_length t h = sym (common_same (length t.ids) (length t.tats) (common_equal (length t.ids) (length t.tats) h))

row_same : (t : Records) (i subscriber moment : ℕ) (tat : Ticks) → i < records.slots t → records.row (records.put t i subscriber moment tat) i ≡ tat
unfolding records
row_same t i subscriber moment tat h = λ k. record { 0 = get_or-set_same t.tats i tat.0 0 (in_both t i h).1 k }

records_stored : Stored records
unfolding records
records_stored =
    record {
      ids_zeros = ids_zeros;
      ids_length = ids_length;
      slots_put = λ t i subscriber moment tat. ap₂ (λ (a b : ℕ). common a b) (length-set t.ids i subscriber) (length-set t.tats i tat.0);
      ids_put = λ t i subscriber moment tat. refl;
      row_same = row_same;
      row_other = λ t i j subscriber moment tat h k. record { 0 = get_or-set_other t.tats i j tat.0 0 h k };
      newest_put = λ t i subscriber moment tat. refl;
      newest_zeros = λ t. refl;
      slots_zeros = λ t. ap₂ (λ (a b : ℕ). common a b) (length-replicate (length t.ids) 0) (length-replicate (length t.tats) 0);
    }

-- .. with the numbers of the plans beside them
pub gcra_stored : Stored columns
gcra_stored = numbered_stored records_stored

-- there are no more slots than any column is long
pub record Least (t : Table) : Type 0 where
  pub ids : columns.slots t ≤ length t.table.ids
  pub numbers : columns.slots t ≤ length t.numbers
  pub tats : columns.slots t ≤ length t.table.tats

pub least : (t : Table) → Least t
unfolding records
least t =
    let inner = common_least (length t.table.ids) (length t.table.tats) in
    let outer = common_least (common (length t.table.ids) (length t.table.tats)) (length t.numbers) in
    record { ids = omega (arith, inner, outer); numbers = outer.1; tats = omega (arith, inner, outer) }

-- columns that are a table are equally long
pub record Equal (t : Table) : Type 0 where
  pub ids : length t.table.ids ≡ columns.slots t
  pub numbers : length t.numbers ≡ columns.slots t
  pub tats : length t.table.tats ≡ columns.slots t

pub equal : (t : Table) → 1 ≤ columns.slots t → Equal t
unfolding records
equal t h =
    let first = records.slots t.table in
    let outer : first ≡ length t.numbers = common_equal first (length t.numbers) h in
    let all : columns.slots t ≡ first = common_same first (length t.numbers) outer in
    let inner : length t.table.ids ≡ length t.table.tats = common_equal (length t.table.ids) (length t.table.tats) (omega arith) in
    let both : first ≡ length t.table.ids = common_same (length t.table.ids) (length t.table.tats) inner in
    record { ids = omega arith; numbers = omega arith; tats = omega arith }

-- equal columns have as many slots
pub all_slots :
    (t : Table) → length t.table.ids ≡ length t.numbers → length t.table.ids ≡ length t.table.tats → columns.slots t ≡ length t.table.ids
unfolding records
all_slots t to_numbers to_tats =
    let two = common_same (length t.table.ids) (length t.table.tats) to_tats in
    common_same _ (length t.numbers) (two ∙ to_numbers) ∙ two
