-- Columns with the numbers of plans beside them keep what is written, if the columns do.
-- Assumes nothing.
use mathlib.Core.Path.{◌≡◌, sym, ap₂, ◌∙◌}
use Prim.Native.Nat.{ℕ, ◌≤◌, ◌<◌}
use native.Mathlib.Omega.{arith}
use lib.ListN.{length, length-set, length-replicate}
use lib.Seq.{get_or-set_same, get_or-set_other}
use Rattle.plans.specs.declared.planned.Planned.{Planned}
use Rattle.table.specs.Numbered.{Numbered, numbered}
use Rattle.table.specs.Slots.{Columns, common}
use Rattle.table.proofs.Slots.{common_equal, common_same}
use Rattle.table.specs.Stored.{Stored}

module _ {C R : Type 0} {K : Columns C R} (S : Stored K) where
  -- the columns that are a table are equally long
  pub numbered_equal :
      (t : Numbered C) → 1 ≤ (numbered K).slots t →
      (K.slots t.table ≡ (numbered K).slots t) × (length t.numbers ≡ (numbered K).slots t)
  numbered_equal t h =
      let equal = common_equal (K.slots t.table) (length t.numbers) h in
      let count = common_same (K.slots t.table) (length t.numbers) equal in
      (sym count, sym equal ∙ sym count)

  row_same :
      (t : Numbered C) (i subscriber moment : ℕ) (x : Planned R) → i < (numbered K).slots t →
      (numbered K).row ((numbered K).put t i subscriber moment x) i ≡ x
  row_same t i subscriber moment x h =
      let e = numbered_equal t (omega arith) in
      let number = get_or-set_same t.numbers i x.number 0 (omega (arith, e.1)) in
      let held = S.row_same t.table i subscriber moment x.held (omega (arith, e.0)) in
      λ k. record { number = number k; held = held k }

  ids_length : (t : Numbered C) → 1 ≤ (numbered K).slots t → length ((numbered K).ids t) ≡ (numbered K).slots t
  ids_length t h =
      let e = numbered_equal t h in
      S.ids_length t.table (omega (arith, e.0)) ∙ e.0

  pub numbered_stored : Stored (numbered K)
  numbered_stored =
      record {
        ids_length = ids_length;
        slots_put = λ t i subscriber moment x.
            ap₂ (λ (a b : ℕ). common a b) (S.slots_put t.table i subscriber moment x.held) (length-set t.numbers i x.number);
        ids_put = λ t i subscriber moment x. S.ids_put t.table i subscriber moment x.held;
        row_same = row_same;
        row_other = λ t i j subscriber moment x h k.
            record {
              number = get_or-set_other t.numbers i j x.number 0 h k;
              held = S.row_other t.table i j subscriber moment x.held h k;
            };
        slots_zeros = λ t. ap₂ (λ (a b : ℕ). common a b) (S.slots_zeros t.table) (length-replicate (length t.numbers) 0);
        ids_zeros = λ t. S.ids_zeros t.table;
        newest_put = λ t i subscriber moment x. S.newest_put t.table i subscriber moment x.held;
        newest_zeros = λ t. S.newest_zeros t.table;
      }
