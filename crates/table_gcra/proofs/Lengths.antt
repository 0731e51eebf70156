-- How long the columns are: equal ones have as many slots, a clear makes zeros of all of them, and an acquire leaves all
-- columns as long as they were.
-- Assumes nothing.
use mathlib.Core.Path.{◌≡◌, refl, sym, ap, ap₂, subst, ◌∙◌}
use mathlib.Core.Bool.{Bool, true, false}
use mathlib.Core.List.{List}
use Prim.Native.Nat.{ℕ}
use lib.Dec.{eqb}
use lib.ListN.{length, replicate, length-set}
use borrow.Author.Tests.{eqb-true}
use Rattle.ticks.specs.declared.units.Ticks.{Ticks}
use Rattle.rate.specs.Answer.{answered}
use Rattle.rate.specs.Decision.{bare}
use Rattle.plans.specs.declared.planned.Planned.{Planned}
use Rattle.plans.specs.Plans.{Plans}
use Rattle.table.specs.Request.{Request}
use Rattle.table.specs.Checks.{slots_ok}
use Rattle.table.proofs.Cases.{clear_done, clear_unfit}
use Rattle.table.proofs.Writes.{denied_changes_nothing, admission_writes_one}
use Rattle.table_gcra.specs.Table.{records, Table, table_of, columns, rule, acquire, clear}
use Rattle.table_gcra.proofs.Columns.{all_slots}

-- a clear of so many slots
module _ (ids numbers tats : List ℕ) (newest : ℕ) {slots : ℕ} (i : length ids ≡ slots) (k : length numbers ≡ slots) (j : length tats ≡ slots) where
  slots_are : columns.slots (table_of ids numbers tats newest) ≡ slots
  slots_are = all_slots (table_of ids numbers tats newest) (i ∙ sym k) (i ∙ sym j) ∙ i

  zeros_are : columns.zeros (table_of ids numbers tats newest) ≡ table_of (replicate slots 0) (replicate slots 0) (replicate slots 0) 0
  unfolding records
  zeros_are =
      ap₂ (λ (n m : ℕ). table_of (replicate n 0) (replicate (length numbers) 0) (replicate m 0) 0) i j
      ∙ ap (λ (l : ℕ). table_of (replicate slots 0) (replicate l 0) (replicate slots 0) 0) k

  pub clear_zeros :
      slots_ok slots ≡ true →
      clear (table_of ids numbers tats newest)
      ≡ record { answer = answered 0 (bare 0); after = table_of (replicate slots 0) (replicate slots 0) (replicate slots 0) 0 }
  clear_zeros e =
      clear_done columns (table_of ids numbers tats newest) (ap slots_ok slots_are ∙ e)
      ∙ ap (λ (t : Table). record { answer = answered 0 (bare 0); after = t }) zeros_are

  pub clear_refuses :
      slots_ok slots ≡ false → clear (table_of ids numbers tats newest) ≡ record { answer = answered 0 (bare 2); after = table_of ids numbers tats newest }
  clear_refuses e = clear_unfit columns (table_of ids numbers tats newest) (ap slots_ok slots_are ∙ e)

-- two tables with columns of the same lengths
pub record SameLengths (t u : Table) : Type 0 where
  pub ids : length t.table.ids ≡ length u.table.ids
  pub numbers : length t.numbers ≡ length u.numbers
  pub tats : length t.table.tats ≡ length u.table.tats

pub same_lengths : (t : Table) → SameLengths t t
same_lengths t = record { ids = refl; numbers = refl; tats = refl }

put_lengths : (t : Table) (i subscriber moment : ℕ) (held : Planned Ticks) → SameLengths (columns.put t i subscriber moment held) t
unfolding records
put_lengths t i subscriber moment held =
    record {
      ids = length-set t.table.ids i subscriber;
      numbers = length-set t.numbers i held.number;
      tats = length-set t.table.tats i held.held.0;
    }

pub acquire_lengths : (r : Request Plans) (t : Table) → SameLengths (acquire r t).after t
acquire_lengths r t = by (eqb (acquire r t).answer.number 0) refl
  where
    by : (b : Bool) → eqb (acquire r t).answer.number 0 ≡ b → SameLengths (acquire r t).after t
    by true e =
        let a = admission_writes_one rule columns r t (eqb-true _ _ e) in
        subst (λ (u : Table). SameLengths u t) (sym a.after) (put_lengths t a.place r.query.subscriber r.query.moment a.held)
    by false e =
        subst (λ (u : Table). SameLengths u t) (sym (denied_changes_nothing rule columns r t e)) (same_lengths t)
