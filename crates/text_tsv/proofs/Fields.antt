-- The fields of a line from its start, and what a field reader's answer says of them.
-- Assumes nothing.
use Rattle.std.proofs.Common.{◌≡◌, ℕ, ◌≤◌, drop, le-leb, List, [], ◌∷◌, length, ap, refl, Option, Some, None}
use Rattle.std.proofs.Math.Dec.{leb-zero}
use Rattle.text_tsv.specs.Text.{fields}
use Rattle.text_tsv.specs.Decimal.{decimal}
use Rattle.text_tsv.specs.Fields.{unreadable, number, fields_at, taken_as, take_number}

pub fields_all : (line : List ℕ) → fields_at line 0 ≡ fields line
unfolding fields_at
fields_all line = rw (leb-zero (length line))

-- those from a place on are those of the text from there
pub fields_from : (line : List ℕ) (at : ℕ) → at ≤ length line → fields_at (drop at line) 0 ≡ fields_at line at
unfolding fields_at
fields_from line at h = rw (leb-zero (length (drop at line)), le-leb at (length line) h)

module _ {f : Option ℕ} (fs : List (List ℕ)) where
  pub taken_number : {v : ℕ} → f ≡ Some v → taken_as f fs ≡ number v fs
  unfolding taken_as
  taken_number e = ap (λ (f : Option ℕ). taken_as f fs) e

  pub taken_unreadable : f ≡ None → taken_as f fs ≡ unreadable
  unfolding taken_as
  taken_unreadable e = ap (λ (f : Option ℕ). taken_as f fs) e

-- a number off the front: what the first field says, and the fields after it
pub takes_field :
    (most : ℕ) {fs : List (List ℕ)} (f : List ℕ) (rest : List (List ℕ)) → fs ≡ f ∷ rest →
    taken_as (decimal most f) rest ≡ take_number most fs
unfolding take_number
takes_field most f rest e = rw e refl

pub takes_no_field : (most : ℕ) {fs : List (List ℕ)} (rest : List (List ℕ)) → fs ≡ [] → taken_as None rest ≡ take_number most fs
unfolding take_number taken_as
takes_no_field most rest e = rw e refl

pub ruleset by_first = (takes_field, takes_no_field)
