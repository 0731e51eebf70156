-- Reading from field to field (document 01: 'The reader stands over the lent text and moves from field to field').
use Rattle.std.specs.Prelude.{ℕ, cond, List, [], ◌∷◌, leb, length, drop, Option, Some, None}
use Rattle.text_tsv.specs.Decimal.{decimal}
use Rattle.text_tsv.specs.Text.{fields}

-- the fields that begin at a place or after it; a place beyond the line's end has none
unfoldable pub fields_at : List ℕ → ℕ → List (List ℕ)
fields_at line at = cond (leb at (length line)) (fields (drop at line)) []

-- a number read off the front of some fields, and those that are left
pub data Taken : Type 0 where
  unreadable : Taken
  number : ℕ → List (List ℕ) → Taken

-- what the first field says, and the fields after it
unfoldable pub taken_as : Option ℕ → List (List ℕ) → Taken
taken_as None fs = unreadable
taken_as (Some v) fs = number v fs

unfoldable pub take_number : ℕ → List (List ℕ) → Taken
take_number most [] = unreadable
take_number most (f ∷ fs) = taken_as (decimal most f) fs
