-- The laws of tabbed text (document 01, 'The tabbed text'), with its bytes: an LF is 10, a tab 9, the digits are 48 to 57.
use Rattle.std.specs.Prelude.{ℕ, ◌+◌, ◌-◌, ◌*◌, ◌≤◌, ◌<◌, ◌≡◌, true, false, List, [], ◌∷◌, ◌++◌, length, get_or, drop, Some, None}
use Rattle.text_tsv.specs.Text.{lines, fields, same}
use Rattle.text_tsv.specs.Decimal.{decimal, digits, cell}
use Rattle.text_tsv.specs.Fields.{fields_at, unreadable, number, take_number}

-- no such byte stands in a text
abbrev pub Without : ℕ → List ℕ → Type 0
Without b [] = Unit
Without b (x ∷ s) = (x ≡ b → ⊥) × Without b s

-- lines end with LF
pub record LineLaws : Type 0 where
  pub no_line : lines [] ≡ []
  pub line_ended : (l s : List ℕ) → Without 10 l → lines (l ++ (10 ∷ s)) ≡ record { bytes = l; ended = true } ∷ lines s
  pub line_unended : (b : ℕ) (l : List ℕ) → Without 10 (b ∷ l) → lines (b ∷ l) ≡ record { bytes = b ∷ l; ended = false } ∷ []

-- the line with some fields, parted by one tab
abbrev pub joined : List (List ℕ) → List ℕ
joined [] = []
joined (f ∷ []) = f
joined (f ∷ g ∷ fs) = f ++ (9 ∷ joined (g ∷ fs))

abbrev pub TabFree : List (List ℕ) → Type 0
TabFree [] = Unit
TabFree (f ∷ fs) = Without 9 f × TabFree fs

-- fields are parted by one tab
pub record FieldLaws : Type 0 where
  pub parted : (f : List ℕ) (fs : List (List ℕ)) → TabFree (f ∷ fs) → fields (joined (f ∷ fs)) ≡ f ∷ fs
  pub rejoined : (line : List ℕ) → joined (fields line) ≡ line
  -- those from a place on
  pub at_place : (line : List ℕ) (at : ℕ) → at ≤ length line → fields_at line at ≡ fields (drop at line)
  pub beyond_the_line : (line : List ℕ) (at : ℕ) → length line < at → fields_at line at ≡ []
  -- a field is a word exactly if it has the word's bytes
  pub same_exactly : (a b : List ℕ) → (same a b ≡ true → a ≡ b) × (a ≡ b → same a b ≡ true)

-- a byte that is a digit
pub record Digit (b : ℕ) : Type 0 where
  pub least : 48 ≤ b
  pub most : b ≤ 57

abbrev pub Digits : List ℕ → Type 0
Digits [] = Unit
Digits (b ∷ s) = Digit b × Digits s

-- what digits come to, after those that came to v
abbrev pub value_from : ℕ → List ℕ → ℕ
value_from v [] = v
value_from v (b ∷ s) = value_from (10 * v + (b - 48)) s

-- a number in decimal, without sign or leading zero (`0` itself is allowed)
pub record Numeral (text : List ℕ) (n : ℕ) : Type 0 where
  pub some : 1 ≤ length text
  pub digits : Digits text
  pub no_leading_zero : get_or text 0 0 ≡ 48 → length text ≡ 1
  pub value : value_from 0 text ≡ n

-- the first of some fields is the number n, of at most so much, and these are left
pub record Front (most : ℕ) (fs : List (List ℕ)) (n : ℕ) (rest : List (List ℕ)) : Type 0 where
  pub text : List ℕ
  pub fields : fs ≡ text ∷ rest
  pub numeral : Numeral text n
  pub within : n ≤ most

-- numbers: a field is read as n exactly if it is the decimal of n, and n is at most what is allowed
pub record NumberLaws : Type 0 where
  pub read : (most : ℕ) (f : List ℕ) (n : ℕ) → Numeral f n → n ≤ most → decimal most f ≡ Some n
  pub read_only : (most : ℕ) (f : List ℕ) (n : ℕ) → decimal most f ≡ Some n → Numeral f n × (n ≤ most)
  pub beyond : (most : ℕ) (f : List ℕ) (n : ℕ) → Numeral f n → most < n → decimal most f ≡ None
  -- so it is with a number off the front of some fields
  pub taken :
      (most : ℕ) (fs : List (List ℕ)) (n : ℕ) (rest : List (List ℕ)) →
      (take_number most fs ≡ number n rest → Front most fs n rest) × (Front most fs n rest → take_number most fs ≡ number n rest)
  pub not_taken :
      (most : ℕ) (f : List ℕ) (fs : List (List ℕ)) (n : ℕ) → Numeral f n → most < n → take_number most (f ∷ fs) ≡ unreadable
  -- what is written for a number of 64 bits is its decimal
  pub written : (n : ℕ) → n ≤ 18446744073709551615 → Numeral (digits n) n
  -- and after it stands what ends its field
  pub written_cell : (n end : ℕ) → cell n end ≡ digits n ++ (end ∷ [])

pub record Laws : Type 0 where
  pub of_lines : LineLaws
  pub of_fields : FieldLaws
  pub of_numbers : NumberLaws
