-- A number that is taken off the front of some fields is at most its most.
-- Assumes nothing.
use Rattle.std.proofs.Common.{◌≡◌, ℕ, ◌+◌, ◌-◌, ◌*◌, ◌≤◌, Bool, true, false, cond, ◌&&◌, eqb, leb, List, [], ◌∷◌, sym, refl, subst, arith, leb-true, Option, Some, None}
use Rattle.text_tsv.specs.Decimal.{digit, is_digit, appended, more, onwards, alone, decimal}
use Rattle.text_tsv.specs.Fields.{Taken, unreadable, number, taken_as, take_number}

module _ (most : ℕ) where
  abbrev Within : Option ℕ → Type 0
  Within None = Unit
  Within (Some v) = v ≤ most

  abbrev TakenWithin : Taken → Type 0
  TakenWithin unreadable = Unit
  TakenWithin (number v rest) = v ≤ most

  appended_within : (v b : ℕ) → Within (appended most v b)
  unfolding appended
  appended_within v b = by (is_digit b) (leb (10 * v + (b - 48)) most) refl
    where
      by :
          (d t : Bool) → leb (10 * v + (b - 48)) most ≡ t →
          Within (cond (d && t) (Some (10 * v + (b - 48))) None)
      by true true e = leb-true _ _ e
      by true false e = tt
      by false t e = tt

  onwards_within : (n : Option ℕ) (s : List ℕ) → Within n → Within (onwards most n s)
  unfolding onwards more
  onwards_within n [] h = h
  onwards_within None (b ∷ s) h = onwards_within None s h
  onwards_within (Some v) (b ∷ s) h = onwards_within (appended most v b) s (appended_within v b)

  alone_within : (s : List ℕ) → Within (alone s)
  unfolding alone
  alone_within [] = omega arith
  alone_within (b ∷ s) = tt

  decimal_within : (f : List ℕ) → Within (decimal most f)
  unfolding decimal
  decimal_within [] = tt
  decimal_within (b ∷ s) = by (eqb b (digit 0))
    where
      by : (t : Bool) → Within (cond t (alone s) (onwards most (Some 0) (b ∷ s)))
      by true = alone_within s
      by false = onwards_within (Some 0) (b ∷ s) (omega arith)

  taken_within : (n : Option ℕ) (fs : List (List ℕ)) → Within n → TakenWithin (taken_as n fs)
  unfolding taken_as
  taken_within None fs h = tt
  taken_within (Some v) fs h = h

  take_within : (fs : List (List ℕ)) → TakenWithin (take_number most fs)
  unfolding take_number
  take_within [] = tt
  take_within (f ∷ fs) = taken_within (decimal most f) fs (decimal_within f)

  pub takes_within : (fs : List (List ℕ)) {v : ℕ} {rest : List (List ℕ)} → number v rest ≡ take_number most fs → v ≤ most
  takes_within fs e = subst TakenWithin (sym e) (take_within fs)
