-- The length that two columns have in common, what a slot carries, and whether it is free.
-- Assumes nothing.
use mathlib.Core.Path.{◌≡◌, refl, sym, ◌∙◌}
use mathlib.Core.Bool.{Bool, true, false, cond}
use mathlib.Core.List.{List}
use Prim.Native.Nat.{ℕ, ◌≤◌}
use native.Mathlib.Omega.{arith}
use lib.Dec.{eqb, leb}
use lib.ListN.{get_or}
use borrow.Author.Tests.{eq-eqb, ne_eqb, eqb-true, eqb-false}
use Rattle.table.specs.Rule.{Rule}
use Rattle.table.specs.Slots.{Columns, common, carries, at_most, vacant, NoneFrom}

pub common_same : (a b : ℕ) → a ≡ b → common a b ≡ a
unfolding common
common_same a b e = rw (eq-eqb a b e)

pub common_unequal : (a b : ℕ) → (a ≡ b → ⊥) → common a b ≡ 0
unfolding common
common_unequal a b h = rw (ne_eqb a b h)

pub common_equal : (a b : ℕ) → 1 ≤ common a b → a ≡ b
unfolding common
common_equal a b = by (eqb a b) refl
  where
    by : (t : Bool) → eqb a b ≡ t → 1 ≤ cond t a 0 → a ≡ b
    by true e h = eqb-true a b e
    by false e h = absurd (omega arith)

-- it is no more than either
pub common_least : (a b : ℕ) → (common a b ≤ a) × (common a b ≤ b)
unfolding common
common_least a b = by (eqb a b) refl
  where
    by : (t : Bool) → eqb a b ≡ t → (cond t a 0 ≤ a) × (cond t a 0 ≤ b)
    by true e = let same : a ≡ b = eqb-true a b e in (omega arith, omega arith)
    by false e = (omega arith, omega arith)

-- a slot carries the number that stands in it, and no other
pub carried : (ids : List ℕ) (subscriber i : ℕ) → carries ids subscriber i ≡ true → get_or ids i 0 ≡ subscriber
unfolding carries
carried ids subscriber i e = eqb-true _ _ e

pub not_carried : (ids : List ℕ) (subscriber i : ℕ) → carries ids subscriber i ≡ false → get_or ids i 0 ≡ subscriber → ⊥
unfolding carries
not_carried ids subscriber i e = eqb-false _ _ e

pub carries_own : (ids : List ℕ) (subscriber i : ℕ) → get_or ids i 0 ≡ subscriber → carries ids subscriber i ≡ true
unfolding carries
carries_own ids subscriber i e = eq-eqb _ _ e

pub carries_other : (ids : List ℕ) (subscriber i : ℕ) → (get_or ids i 0 ≡ subscriber → ⊥) → carries ids subscriber i ≡ false
unfolding carries
carries_other ids subscriber i n = ne_eqb _ _ n

-- whether a slot is free: it is empty, or its record, as it was read, owes nothing
module _ {C P R : Type 0} (U : Rule P R) (K : Columns C R) (p : P) (at : ℕ) (c : C) where
  pub vacant_empty : (i : ℕ) → get_or (K.ids c) i 0 ≡ 0 → vacant U K p at c i ≡ true
  unfolding vacant carries
  vacant_empty i e = rw (eq-eqb (get_or (K.ids c) i 0) 0 e)

  pub vacant_held :
      (i : ℕ) {held : R} {found told : Bool} → (get_or (K.ids c) i 0 ≡ 0 → ⊥) → held ≡ K.row c i → found ≡ U.free p at held →
      found ≡ told → vacant U K p at c i ≡ told
  unfolding vacant carries
  vacant_held i some read says told = rw (ne_eqb (get_or (K.ids c) i 0) 0 some, ← read) (sym says ∙ told)

  -- no slot of a block is free if none is empty and no record owes nothing
  pub none_vacant :
      (from to : ℕ) → NoneFrom (carries (K.ids c) 0) from to → NoneFrom (λ j. U.free p at (K.row c j)) from to →
      NoneFrom (vacant U K p at c) from to
  unfolding vacant
  none_vacant from to held owing j above below = rw (held j above below) (owing j above below)

-- what the test of a column's number is
pub at_most_test : (column : List ℕ) (most i : ℕ) → at_most column most i ≡ leb (get_or column i 0) most
unfolding at_most
at_most_test column most i = refl
