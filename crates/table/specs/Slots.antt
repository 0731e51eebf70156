-- Document 01, 'Seats': a table is a set of columns of equal length; each place of it is a slot (document 01's seat).
use Rattle.std.specs.Prelude.{◌≡◌, ℕ, zero, suc, ◌≤◌, ◌<◌, Bool, false, cond, ◌||◌, List, eqb, leb, get_or, Option, Some, None}
use Rattle.table.specs.Rule.{Rule}

-- the length that two columns have in common; 0, which no table has, if they are unequal
unfoldable pub common : ℕ → ℕ → ℕ
common a b = cond (eqb a b) a 0

-- columns C that hold a subscriber's number and a record R in each slot
pub record Columns (C R : Type 0) : Type 0 where
  -- how many slots; 0 if the columns are unequal
  pub slots : C → ℕ
  -- the subscribers' numbers, 0 in an empty slot
  pub ids : C → List ℕ
  -- the record in a slot
  pub row : C → ℕ → R
  -- the newest moment at which anything was admitted (document 02, Item 6)
  pub newest : C → ℕ
  -- an admission: a slot overwritten whole, with a number and a record, and its moment as the newest
  pub put : C → ℕ → ℕ → ℕ → R → C
  -- every column all zeros, and the newest moment 0
  pub zeros : C → C

-- the lowest of the places from one on, so many, that passes a test
unfoldable pub seek_from : (ℕ → Bool) → ℕ → ℕ → Option ℕ
seek_from test zero i = None
seek_from test (suc more) i = cond (test i) (Some i) (seek_from test more (suc i))

-- the lowest place below n that passes a test
unfoldable pub seek : (ℕ → Bool) → ℕ → Option ℕ
seek test n = seek_from test n 0

-- none of the places from one up to another passes a test
abbrev pub NoneFrom : (ℕ → Bool) → ℕ → ℕ → Type 0
NoneFrom test from to = (j : ℕ) → from ≤ j → j < to → test j ≡ false

-- nothing below a place passes
abbrev pub NoneBelow : (ℕ → Bool) → ℕ → Type 0
NoneBelow test end = (j : ℕ) → j < end → test j ≡ false

-- the slot carries the number
unfoldable pub carries : List ℕ → ℕ → ℕ → Bool
carries ids subscriber i = eqb (get_or ids i 0) subscriber

-- the number at a place of a column is at most so many
unfoldable pub at_most : List ℕ → ℕ → ℕ → Bool
at_most column most i = leb (get_or column i 0) most

-- a subscriber's slot is the lowest that carries its number
unfoldable pub own : {C R : Type 0} → Columns C R → ℕ → C → Option ℕ
own K subscriber c = seek (carries (K.ids c) subscriber) (K.slots c)

module _ {C P R : Type 0} (U : Rule P R) (K : Columns C R) where
  -- a slot is free if it is empty or owes nothing
  unfoldable pub vacant : P → ℕ → C → ℕ → Bool
  vacant p at c i = carries (K.ids c) 0 i || U.free p at (K.row c i)

  -- a subscriber without a slot gets the lowest free one
  unfoldable pub lowest_free : P → ℕ → C → Option ℕ
  lowest_free p at c = seek (vacant p at c) (K.slots c)
