-- A number that is written and read is the number.
-- Assumes nothing.
use Rattle.std.proofs.Common.{◌≡◌, ℕ, zero, suc, ◌+◌, ◌-◌, ◌*◌, ◌/◌, ◌%◌, ◌^◌, ◌<◌, ◌≤◌, Bool, true, false, cond, ltb, List, [], ◌∷◌, ◌++◌, length, get_or, refl, ap, ◌∙◌, inl, inr, arith, length-append, ltb-false, ltb-true, lt-ltb, le-leb, Option, Some}
use Rattle.std.proofs.Math.ListN.{get_or-append}
use Rattle.text_tsv.specs.Decimal.{digit, is_digit, appended, more, onwards, decimal, digits_up_to, digits}
use Rattle.text_tsv.proofs.Digits.{Enough, enough_64}
use Rattle.text_tsv.proofs.Reading.{decimal_zero, decimal_digits}

onwards_append : (most : ℕ) (n : Option ℕ) (a b : List ℕ) → onwards most n (a ++ b) ≡ onwards most (onwards most n a) b
unfolding onwards
onwards_append most n [] b = refl
onwards_append most n (x ∷ a) b = onwards_append most (more most n x) a b

-- a digit's byte is a digit, and adds it
digit_appended : (most v d : ℕ) → d < 10 → 10 * v + d ≤ most → appended most v (digit d) ≡ Some (10 * v + d)
unfolding appended is_digit
digit_appended most v d h l =
    let low : 48 ≤ 48 + d = omega arith in
    let high : 48 + d ≤ 57 = omega arith in
    let same : 48 + d - 48 ≡ d = omega arith in
    rw (same, le-leb 48 (48 + d) low, le-leb (48 + d) 57 high, le-leb (10 * v + d) most l)

module _ (most : ℕ) where
  -- one digit
  read_one : (n : ℕ) → n < 10 → n ≤ most → onwards most (Some 0) (digit n ∷ []) ≡ Some n
  unfolding onwards more
  read_one n h l = digit_appended most 0 n h (omega arith) ∙ ap (λ (x : ℕ). Some x) (omega arith)

  -- the digits of a tenth, and the last
  read_more :
      (n : ℕ) (s : List ℕ) → onwards most (Some 0) s ≡ Some (n / 10) → n ≤ most →
      onwards most (Some 0) (s ++ (digit (n % 10) ∷ [])) ≡ Some n
  unfolding onwards more
  read_more n s e l =
      let whole : 10 * (n / 10) + n % 10 ≡ n = omega arith in
      onwards_append most (Some 0) s (digit (n % 10) ∷ []) ∙ ap (λ (x : Option ℕ). more most x (digit (n % 10))) e
      ∙ digit_appended most (n / 10) (n % 10) (omega arith) (omega arith) ∙ ap (λ (x : ℕ). Some x) whole

  -- digit by digit it comes to the number
  read_back : (k n : ℕ) → Enough k n → n ≤ most → onwards most (Some 0) (digits_up_to k n) ≡ Some n
  unfolding digits_up_to
  read_back zero n e l = absurd e
  read_back (suc k) n (inl h) l = rw (lt-ltb n 10 h) (read_one n h l)
  read_back (suc k) n (inr e) l = by (ltb n 10) refl (read_more n (digits_up_to k (n / 10)) (read_back k (n / 10) e (omega arith)) l)
    where
      by :
          (t : Bool) → ltb n 10 ≡ t → onwards most (Some 0) (digits_up_to k (n / 10) ++ (digit (n % 10) ∷ [])) ≡ Some n →
          onwards most (Some 0) (cond t (digit n ∷ []) (digits_up_to k (n / 10) ++ (digit (n % 10) ∷ []))) ≡ Some n
      by true t r = read_one n (ltb-true n 10 t) l
      by false t r = r

least : (k n : ℕ) → Enough k n → 1 ≤ length (digits_up_to k n)
unfolding digits_up_to
least zero n e = absurd e
least (suc k) n e = by (ltb n 10)
  where
    by : (t : Bool) → 1 ≤ length (cond t (digit n ∷ []) (digits_up_to k (n / 10) ++ (digit (n % 10) ∷ [])))
    by true = omega arith
    by false = omega (arith, length-append (digits_up_to k (n / 10)) (digit (n % 10) ∷ []))

-- a number that is not 0 has no leading 0
leading : (k n : ℕ) → Enough k n → 1 ≤ n → 48 < get_or (digits_up_to k n) 0 0
unfolding digits_up_to
leading zero n e l = absurd e
leading (suc k) n (inl h) l = rw (lt-ltb n 10 h) (omega arith)
leading (suc k) n (inr e) l = by (ltb n 10) refl (leading k (n / 10) e) (least k (n / 10) e)
  where
    by :
        (t : Bool) → ltb n 10 ≡ t → (1 ≤ n / 10 → 48 < get_or (digits_up_to k (n / 10)) 0 0) → 1 ≤ length (digits_up_to k (n / 10)) →
        48 < get_or (cond t (digit n ∷ []) (digits_up_to k (n / 10) ++ (digit (n % 10) ∷ []))) 0 0
    by true t r m = omega arith
    by false t r m =
        let ten = ltb-false n 10 t in
        let first = r (omega arith) in
        rw (get_or-append (digits_up_to k (n / 10)) (digit (n % 10) ∷ []) 0 0 m) first

pub written_read : (most n : ℕ) → n < 2 ^ 64 → n ≤ most → decimal most (digits n) ≡ Some n
unfolding digits digits_up_to
written_read most zero h l = decimal_zero most (digits 0) refl refl
written_read most (suc n) h l =
    let enough = enough_64 (suc n) h in
    let some = least 20 (suc n) enough in
    let first = leading 20 (suc n) enough (omega arith) in
    decimal_digits most (digits (suc n)) (λ e. absurd (omega arith)) (λ e. absurd (omega arith)) ∙ read_back most 20 (suc n) enough l
