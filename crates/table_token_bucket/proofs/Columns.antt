-- The columns of the token bucket engine keep what is written.
-- Assumes nothing.
use mathlib.Core.Path.{◌≡◌, refl, ap₂, ◌∙◌}
use Prim.Native.Nat.{ℕ, ◌≤◌, ◌<◌}
use native.Mathlib.Omega.{arith}
use lib.ListN.{length, replicate, length-set, length-replicate}
use lib.Seq.{get_or-set_same, get_or-set_other}
use Rattle.rule_token_bucket.specs.declared.Bucket.{Bucket}
use Rattle.table.specs.Slots.{common}
use Rattle.table.specs.Stored.{Stored}
use Rattle.table.proofs.Numbered.{numbered_equal, numbered_stored}
use Rattle.table.proofs.Slots.{common_equal, common_same, common_least}
use Rattle.table_token_bucket.specs.Table.{Records, records, Table, columns}

-- a cleared table carries nobody
ids_zeros : (t : Records) → records.ids (records.zeros t) ≡ replicate (length t.ids) 0
unfolding records
ids_zeros t = refl

-- columns of records that are a table are equally long
record EqualRecords (t : Records) : Type 0 where
  pub ids : length t.ids ≡ records.slots t
  pub levels : length t.levels ≡ records.slots t
  pub lasts : length t.lasts ≡ records.slots t

records_equal : (t : Records) → 1 ≤ records.slots t → EqualRecords t
unfolding records
records_equal t h =
    let first = common (length t.ids) (length t.levels) in
    let outer : first ≡ length t.lasts = common_equal first (length t.lasts) h in
    let all : records.slots t ≡ first = common_same first (length t.lasts) outer in
    let inner : length t.ids ≡ length t.levels = common_equal (length t.ids) (length t.levels) (omega arith) in
    let both : first ≡ length t.ids = common_same (length t.ids) (length t.levels) inner in
    record { ids = omega arith; levels = omega arith; lasts = omega arith }

row_same :
    (t : Records) (i subscriber moment : ℕ) (b : Bucket) → i < records.slots t → records.row (records.put t i subscriber moment b) i ≡ b
unfolding records
row_same t i subscriber moment b h =
    let e = records_equal t (omega arith) in
    let level = get_or-set_same t.levels i b.level.0 0 (omega (arith, e.levels)) in
    let last = get_or-set_same t.lasts i b.last.0 0 (omega (arith, e.lasts)) in
    λ k. record { level = record { 0 = level k }; last = record { 0 = last k } }

three : (a b c a' b' c' : ℕ) → a ≡ a' → b ≡ b' → c ≡ c' → common (common a b) c ≡ common (common a' b') c'
three a b c a' b' c' ea eb ec = ap₂ (λ (x y : ℕ). common x y) (ap₂ (λ (x y : ℕ). common x y) ea eb) ec

records_stored : Stored records
unfolding records
records_stored =
    record {
      ids_length = λ t h. (records_equal t h).ids;
      slots_put = λ t i subscriber moment b.
          three _ _ _ _ _ _ (length-set t.ids i subscriber) (length-set t.levels i b.level.0) (length-set t.lasts i b.last.0);
      ids_put = λ t i subscriber moment b. refl;
      row_same = row_same;
      row_other = λ t i j subscriber moment b h k.
          record {
            level = record { 0 = get_or-set_other t.levels i j b.level.0 0 h k };
            last = record { 0 = get_or-set_other t.lasts i j b.last.0 0 h k };
          };
      newest_put = λ t i subscriber moment b. refl;
      newest_zeros = λ t. refl;
      slots_zeros = λ t.
          three _ _ _ _ _ _ (length-replicate (length t.ids) 0) (length-replicate (length t.levels) 0) (length-replicate (length t.lasts) 0);
      ids_zeros = ids_zeros;
    }

-- .. with the numbers of the plans beside them
pub token_bucket_stored : Stored columns
token_bucket_stored = numbered_stored records_stored

-- there are no more slots than any column is long
pub record Least (t : Table) : Type 0 where
  pub ids : columns.slots t ≤ length t.table.ids
  pub numbers : columns.slots t ≤ length t.numbers
  pub levels : columns.slots t ≤ length t.table.levels
  pub lasts : columns.slots t ≤ length t.table.lasts

pub least : (t : Table) → Least t
unfolding records
least t =
    let first = common (length t.table.ids) (length t.table.levels) in
    let inner = common_least (length t.table.ids) (length t.table.levels) in
    let both = common_least first (length t.table.lasts) in
    let outer = common_least (common first (length t.table.lasts)) (length t.numbers) in
    record {
      ids = omega (arith, inner, both, outer);
      numbers = outer.1;
      levels = omega (arith, inner, both, outer);
      lasts = omega (arith, both, outer);
    }

-- columns that are a table are equally long
pub record Equal (t : Table) : Type 0 where
  pub ids : length t.table.ids ≡ columns.slots t
  pub numbers : length t.numbers ≡ columns.slots t
  pub levels : length t.table.levels ≡ columns.slots t
  pub lasts : length t.table.lasts ≡ columns.slots t

pub equal : (t : Table) → 1 ≤ columns.slots t → Equal t
equal t h =
    let beside = numbered_equal records_stored t h in
    let e = records_equal t.table (omega (arith, beside.0)) in
    record { ids = e.ids ∙ beside.0; numbers = beside.1; levels = e.levels ∙ beside.0; lasts = e.lasts ∙ beside.0 }
