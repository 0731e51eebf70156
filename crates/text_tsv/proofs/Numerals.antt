-- A field is read as a number exactly if it is the number's decimal and the number is at most what is allowed.
-- Assumes nothing.
use Rattle.std.proofs.Common.{◌≡◌, ℕ, ◌+◌, ◌-◌, ◌*◌, ◌<◌, ◌≤◌, Bool, true, false, cond, ◌&&◌, eqb, leb, List, [], ◌∷◌, ◌++◌, length, get_or, sym, refl, ap, ◌∙◌, subst, arith, eqb-true, le-leb, leb-true, Option, Some, None}
use Rattle.std.proofs.lemmas.Bool.{false≢true, eqb-false}
use Rattle.text_tsv.specs.Decimal.{is_digit, appended, more, onwards, alone, decimal, digits, cell}
use Rattle.text_tsv.specs.Fields.{Taken, unreadable, number, taken_as, take_number}
use Rattle.text_tsv.specs.Laws.{Digit, Digits, Without, value_from, Numeral, Front}
use Rattle.text_tsv.proofs.Reading.{lost, decimal_zero, decimal_digits}
use Rattle.text_tsv.proofs.WrittenRead.{written_read}

both : (a b : Bool) → (a && b) ≡ true → (a ≡ true) × (b ≡ true)
both true b e = (refl, e)
both false b e = absurd (false≢true e)

digit_is : (b : ℕ) → is_digit b ≡ true → Digit b
unfolding is_digit
digit_is b e = let h = both (leb 48 b) (leb b 57) e in record { least = leb-true 48 b h.0; most = leb-true b 57 h.1 }

is_digit_lem : (b : ℕ) → Digit b → is_digit b ≡ true
unfolding is_digit
is_digit_lem b d = rw (le-leb 48 b d.least, le-leb b 57 d.most)

-- more digits never come to less
grows : (v : ℕ) (s : List ℕ) → v ≤ value_from v s
grows v [] = omega arith
grows v (b ∷ s) = omega (arith, grows (10 * v + (b - 48)) s)

zero_is : (f : List ℕ) → length f ≡ 1 → get_or f 0 0 ≡ 48 → 0 ≡ value_from 0 f
zero_is [] l e = absurd (omega arith)
zero_is (b ∷ []) l e = omega arith
zero_is (b ∷ c ∷ s) l e = absurd (omega arith)

module _ (most : ℕ) where
  -- digits that come to no more than is allowed are read
  onwards_read : (v : ℕ) (s : List ℕ) → Digits s → value_from v s ≤ most → onwards most (Some v) s ≡ Some (value_from v s)
  unfolding onwards more appended
  onwards_read v [] d h = refl
  onwards_read v (b ∷ s) d h =
      let w : 10 * v + (b - 48) ≤ most = omega (arith, grows (10 * v + (b - 48)) s) in
      rw (is_digit_lem b d.0, le-leb (10 * v + (b - 48)) most w) (onwards_read (10 * v + (b - 48)) s d.1 h)

  -- and what is read comes of digits
  abbrev From : ℕ → List ℕ → Option ℕ → Type 0
  From v s None = Unit
  From v s (Some n) = Digits s × ((value_from v s ≡ n) × (n ≤ most))

  from_next : (v b : ℕ) (s : List ℕ) (x : Option ℕ) → Digit b → From (10 * v + (b - 48)) s x → From v (b ∷ s) x
  from_next v b s None d h = tt
  from_next v b s (Some n) d h = ((d, h.0), h.1)

  onwards_from : (v : ℕ) (s : List ℕ) → v ≤ most → From v s (onwards most (Some v) s)
  unfolding onwards more appended
  onwards_from v [] h = (tt, (refl, h))
  onwards_from v (b ∷ s) h =
      by (is_digit b && leb (10 * v + (b - 48)) most) refl (onwards_from (10 * v + (b - 48)) s)
    where
      by :
          (t : Bool) → (is_digit b && leb (10 * v + (b - 48)) most) ≡ t →
          (10 * v + (b - 48) ≤ most → From (10 * v + (b - 48)) s (onwards most (Some (10 * v + (b - 48))) s)) →
          From v (b ∷ s) (onwards most (cond t (Some (10 * v + (b - 48))) None) s)
      by true e r =
          let h = both (is_digit b) (leb (10 * v + (b - 48)) most) e in
          from_next v b s (onwards most (Some (10 * v + (b - 48))) s) (digit_is b h.0) (r (leb-true (10 * v + (b - 48)) most h.1))
      by false e r = subst (From v (b ∷ s)) (sym (lost most s)) tt

  abbrev Good : List ℕ → Option ℕ → Type 0
  Good f None = Unit
  Good f (Some n) = Numeral f n × (n ≤ most)

  from_good : (b : ℕ) (s : List ℕ) (x : Option ℕ) → (b ≡ 48 → ⊥) → From 0 (b ∷ s) x → Good (b ∷ s) x
  from_good b s None e h = tt
  from_good b s (Some n) e h = (
    record { some = omega arith; digits = h.0; no_leading_zero = λ z. absurd (e z); value = h.1.0 },
    h.1.1,
  )

  alone_good : (b : ℕ) (s : List ℕ) → b ≡ 48 → Good (b ∷ s) (alone s)
  unfolding alone
  alone_good b [] e = (
    record {
      some = omega arith;
      digits = (record { least = omega arith; most = omega arith }, tt);
      no_leading_zero = λ z. refl;
      value = omega arith;
    },
    omega arith,
  )
  alone_good b (c ∷ s) e = tt

  decimal_good : (f : List ℕ) → Good f (decimal most f)
  unfolding decimal
  decimal_good [] = tt
  decimal_good (b ∷ s) = by (eqb b 48) refl
    where
      by : (t : Bool) → eqb b 48 ≡ t → Good (b ∷ s) (cond t (alone s) (onwards most (Some 0) (b ∷ s)))
      by true e = alone_good b s (eqb-true b 48 e)
      by false e = from_good b s (onwards most (Some 0) (b ∷ s)) (eqb-false b 48 e) (onwards_from 0 (b ∷ s) (omega arith))

  pub read_only : (f : List ℕ) (n : ℕ) → decimal most f ≡ Some n → Numeral f n × (n ≤ most)
  read_only f n e = subst (Good f) e (decimal_good f)

  pub read : (f : List ℕ) (n : ℕ) → Numeral f n → n ≤ most → decimal most f ≡ Some n
  read f n x h = by (eqb (get_or f 0 0) 48) refl
    where
      by : (t : Bool) → eqb (get_or f 0 0) 48 ≡ t → decimal most f ≡ Some n
      by true e =
          let first = eqb-true (get_or f 0 0) 48 e in
          let one = x.no_leading_zero first in
          decimal_zero most f first one ∙ ap (λ (v : ℕ). Some v) (zero_is f one first ∙ x.value)
      by false e =
          decimal_digits most f (λ z. absurd (omega (arith, x.some))) (eqb-false (get_or f 0 0) 48 e)
          ∙ onwards_read 0 f x.digits (omega (arith, x.value)) ∙ ap (λ (v : ℕ). Some v) x.value

  pub beyond : (f : List ℕ) (n : ℕ) → Numeral f n → most < n → decimal most f ≡ None
  beyond f n x h = by (decimal most f) refl
    where
      by : (d : Option ℕ) → decimal most f ≡ d → d ≡ None
      by None e = refl
      by (Some m) e =
          let other = read_only f m e in
          absurd (omega (arith, x.value, other.0.value, other.1))

  -- so it is with a number off the front of some fields
  abbrev Fronted : List (List ℕ) → Taken → Type 0
  Fronted fs unreadable = Unit
  Fronted fs (number n rest) = Front most fs n rest

  taken_good : (f : List ℕ) (fs : List (List ℕ)) (x : Option ℕ) → Good f x → Fronted (f ∷ fs) (taken_as x fs)
  unfolding taken_as
  taken_good f fs None h = tt
  taken_good f fs (Some n) h = record { text = f; fields = refl; numeral = h.0; within = h.1 }

  take_good : (fs : List (List ℕ)) → Fronted fs (take_number most fs)
  unfolding take_number
  take_good [] = tt
  take_good (f ∷ fs) = taken_good f fs (decimal most f) (decimal_good f)

  pub take_only :
      (fs : List (List ℕ)) (n : ℕ) (rest : List (List ℕ)) → take_number most fs ≡ number n rest → Front most fs n rest
  take_only fs n rest e = subst (Fronted fs) e (take_good fs)

  pub takes :
      (fs : List (List ℕ)) (n : ℕ) (rest : List (List ℕ)) → Front most fs n rest → take_number most fs ≡ number n rest
  unfolding take_number taken_as
  takes fs n rest x = rw (x.fields, read x.text n x.numeral x.within)

  pub not_taken : (f : List ℕ) (fs : List (List ℕ)) (n : ℕ) → Numeral f n → most < n → take_number most (f ∷ fs) ≡ unreadable
  unfolding take_number taken_as
  not_taken f fs n x h = rw (beyond f n x h)

-- what is written for a number of 64 bits is its decimal
pub written : (n : ℕ) → n ≤ 18446744073709551615 → Numeral (digits n) n
written n h = (read_only 18446744073709551615 (digits n) n (written_read 18446744073709551615 n (omega arith) h)).0

pub written_cell : (n end : ℕ) → cell n end ≡ digits n ++ (end ∷ [])
unfolding cell
written_cell n end = refl

digits_without : (s : List ℕ) → Digits s → Without 9 s
digits_without [] d = tt
digits_without (b ∷ s) d = (λ e. absurd (omega (arith, d.0.least)), digits_without s d.1)

-- a number has no tab
pub numeral_without : {f : List ℕ} {n : ℕ} → Numeral f n → Without 9 f
numeral_without {f} x = digits_without f x.digits
