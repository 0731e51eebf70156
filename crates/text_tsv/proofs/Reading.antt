-- A number read digit by digit.
-- Assumes nothing.
use Rattle.std.proofs.Common.{◌≡◌, ℕ, ◌+◌, ◌<◌, ◌≤◌, List, [], ◌∷◌, length, get_or, drop, sym, refl, ap, ◌∙◌, arith, drop_of_length-le, eq-eqb, ne_eqb, Option, Some, None}
use Rattle.text_tsv.specs.Decimal.{appended, more, onwards, alone, decimal}
use Rattle.text_tsv.proofs.Scanning.{rest_of}

-- once unreadable, unreadable to the end
pub lost : (most : ℕ) (s : List ℕ) → onwards most None s ≡ None
unfolding onwards more
lost most [] = refl
lost most (b ∷ s) = lost most s

module _ (most : ℕ) (n : Option ℕ) (s : List ℕ) (i : ℕ) where
  pub onwards_end : length s ≤ i → onwards most n (drop i s) ≡ n
  unfolding onwards
  onwards_end h = rw (drop_of_length-le s h)

  pub onwards_next : i < length s → onwards most n (drop i s) ≡ onwards most (more most n (get_or s i 0)) (drop (i + 1) s)
  unfolding onwards
  onwards_next h = rw (rest_of s i h)

module _ (most v : ℕ) (s : List ℕ) (i : ℕ) (h : i < length s) {n : Option ℕ} (says : n ≡ appended most v (get_or s i 0)) where
  -- a digit that was taken
  pub onwards_taken :
      {w : ℕ} → n ≡ Some w → onwards most (Some v) (drop i s) ≡ onwards most (Some w) (drop (i + 1) s)
  unfolding more
  onwards_taken e = onwards_next most (Some v) s i h ∙ ap (λ (x : Option ℕ). onwards most x (drop (i + 1) s)) (sym says ∙ e)

  -- and one that was not
  pub onwards_lost : n ≡ None → onwards most (Some v) (drop i s) ≡ None
  unfolding more
  onwards_lost e =
      onwards_next most (Some v) s i h ∙ ap (λ (x : Option ℕ). onwards most x (drop (i + 1) s)) (sym says ∙ e)
      ∙ lost most (drop (i + 1) s)

pub ruleset by_next_digit = (onwards_end, onwards_taken, onwards_lost)

-- a field by its first byte
module _ (most : ℕ) where
  pub decimal_empty : (s : List ℕ) → length s ≡ 0 → decimal most s ≡ None
  unfolding decimal
  decimal_empty [] e = refl
  decimal_empty (b ∷ s) e = absurd (omega arith)

  pub decimal_zero : (s : List ℕ) → get_or s 0 0 ≡ 48 → length s ≡ 1 → decimal most s ≡ Some 0
  unfolding decimal alone
  decimal_zero [] e l = absurd (omega arith)
  decimal_zero (b ∷ []) e l = rw (eq-eqb b 48 e)
  decimal_zero (b ∷ c ∷ s) e l = absurd (omega arith)

  pub decimal_leading :
      (s : List ℕ) → (length s ≡ 0 → ⊥) → get_or s 0 0 ≡ 48 → (length s ≡ 1 → ⊥) → decimal most s ≡ None
  unfolding decimal alone
  decimal_leading [] n e l = absurd (n refl)
  decimal_leading (b ∷ []) n e l = absurd (l refl)
  decimal_leading (b ∷ c ∷ s) n e l = rw (eq-eqb b 48 e)

  pub decimal_digits :
      (s : List ℕ) → (length s ≡ 0 → ⊥) → (get_or s 0 0 ≡ 48 → ⊥) → decimal most s ≡ onwards most (Some 0) s
  unfolding decimal
  decimal_digits [] n e = absurd (n refl)
  decimal_digits (b ∷ s) n e = rw (ne_eqb b 48 e)

pub ruleset by_first_byte = (decimal_empty, decimal_zero, decimal_leading, decimal_digits)
