-- The digits of a number: those of a tenth of it and its last, or those of a hundredth and its last two; and how many they are, by the
-- powers of ten.
-- Assumes nothing.
use Rattle.std.proofs.Common.{◌≡◌, ℕ, zero, suc, ◌+◌, ◌*◌, ◌/◌, ◌%◌, ◌^◌, ◌<◌, ◌≤◌, Bool, true, false, cond, ltb, ◌⊎◌, List, [], ◌∷◌, ◌++◌, length, sym, refl, ap, ◌∙◌, inl, inr, div-lt_iff_lt-mul, le-div_iff_mul-le, arith, length-append, ltb-false, ltb-true, le-ltb, lt-ltb}
use Rattle.std.proofs.Math.Nat.{pow-suc}
use Rattle.std.proofs.Math.Seq.{append_snoc}
use Rattle.text_tsv.specs.Decimal.{digit, digits_up_to, digits, cell}

-- so many digits are enough
abbrev pub Enough : ℕ → ℕ → Type 0
Enough zero n = ⊥
Enough (suc k) n = (n < 10) ⊎ Enough k (n / 10)

-- a power of ten, by its zeros
abbrev pub tens : ℕ → ℕ
tens zero = 1
tens (suc k) = tens k * 10

tens_is : (k : ℕ) → tens k ≡ 10 ^ k
tens_is zero = refl
tens_is (suc k) = ap (λ (p : ℕ). p * 10) (tens_is k) ∙ sym (pow-suc 10 k)

tens_some : (k : ℕ) → 1 ≤ tens k
tens_some zero = omega arith
tens_some (suc k) = omega (arith, tens_some k)

pub enough : (k n : ℕ) → n < tens (suc k) → Enough (suc k) n
enough zero n h = inl (omega arith)
enough (suc k) n h = inr (enough k (n / 10) ((div-lt_iff_lt-mul {k = 10} (omega arith)).1 h))

pub enough_64 : (n : ℕ) → n < 2 ^ 64 → Enough 20 n
enough_64 n h = enough 19 n (omega arith)

-- one more than enough makes no difference
settled : (k n : ℕ) → Enough k n → digits_up_to (suc k) n ≡ digits_up_to k n
unfolding digits_up_to
settled zero n e = absurd e
settled (suc k) n (inl h) = rw (lt-ltb n 10 h)
settled (suc k) n (inr e) = ap (λ (s : List ℕ). cond (ltb n 10) (digit n ∷ []) (s ++ (digit (n % 10) ∷ []))) (settled k (n / 10) e)

module _ (n : ℕ) where
  pub digits_small : n < 10 → digits n ≡ digit n ∷ []
  unfolding digits digits_up_to
  digits_small h = rw (lt-ltb n 10 h)

  digits_step : 10 ≤ n → n < 2 ^ 64 → digits n ≡ digits (n / 10) ++ (digit (n % 10) ∷ [])
  unfolding digits digits_up_to
  digits_step h l =
      rw (le-ltb n 10 h)
      (ap (λ (s : List ℕ). s ++ (digit (n % 10) ∷ []))
      (sym (settled 19 (n / 10) (enough 18 (n / 10) ((div-lt_iff_lt-mul {k = 10} (omega arith)).1 (omega arith))))))

-- the two digits of a number below 100, also where the first is 0
abbrev pub pair_of : ℕ → List ℕ
pair_of n = digit (n / 10) ∷ digit (n % 10) ∷ []

pub digits_two : (n : ℕ) → 10 ≤ n → n < 100 → digits n ≡ pair_of n
digits_two n h l =
    digits_step n h (omega arith) ∙ ap (λ (s : List ℕ). s ++ (digit (n % 10) ∷ [])) (digits_small (n / 10) (omega arith))

-- the last two digits are those of the remainder by 100
pub digits_pair : (n : ℕ) → 100 ≤ n → n < 2 ^ 64 → digits n ≡ digits (n / 100) ++ pair_of (n % 100)
digits_pair n h l =
    let rest : n / 10 / 10 ≡ n / 100 = omega arith in
    let first : n / 10 % 10 ≡ n % 100 / 10 = omega arith in
    let second : n % 10 ≡ n % 100 % 10 = omega arith in
    digits_step n (omega arith) l ∙ ap (λ (s : List ℕ). s ++ (digit (n % 10) ∷ [])) (digits_step (n / 10) (omega arith) (omega arith))
    ∙ append_snoc (digits (n / 10 / 10)) (digit (n / 10 % 10)) (digit (n % 10) ∷ []) ∙ rw (rest, first, second)

up_to_most : (k n : ℕ) → length (digits_up_to k n) ≤ k
unfolding digits_up_to
up_to_most zero n = omega arith
up_to_most (suc k) n = by (ltb n 10) (up_to_most k (n / 10))
  where
    by : (t : Bool) → length (digits_up_to k (n / 10)) ≤ k → length (cond t (digit n ∷ []) (digits_up_to k (n / 10) ++ (digit (n % 10) ∷ []))) ≤ suc k
    by true h = omega arith
    by false h = omega (arith, length-append (digits_up_to k (n / 10)) (digit (n % 10) ∷ []))

-- a number of 64 bits has 1 to 20 digits
pub digits_most : (n : ℕ) → length (digits n) ≤ 20
unfolding digits
digits_most n = up_to_most 20 n

pub digits_least : (n : ℕ) → 1 ≤ length (digits n)
unfolding digits digits_up_to
digits_least n = by (ltb n 10)
  where
    by : (t : Bool) → 1 ≤ length (cond t (digit n ∷ []) (digits_up_to 19 (n / 10) ++ (digit (n % 10) ∷ [])))
    by true = omega arith
    by false = omega (arith, length-append (digits_up_to 19 (n / 10)) (digit (n % 10) ∷ []))

pub digits_one : (n : ℕ) → n < 10 → length (digits n) ≡ 1
digits_one n h = ap (λ (s : List ℕ). length s) (digits_small n h)

digits_more : (n : ℕ) → 10 ≤ n → n < 2 ^ 64 → length (digits n) ≡ length (digits (n / 10)) + 1
digits_more n h l = ap (λ (s : List ℕ). length s) (digits_step n h l) ∙ length-append (digits (n / 10)) (digit (n % 10) ∷ [])

-- a number has more digits than a power of ten that it reaches has zeros
pub digits_above : (w n : ℕ) → tens w ≤ n → n < 2 ^ 64 → w < length (digits n)
digits_above zero n h l = digits_least n
digits_above (suc w) n h l =
    omega (
      arith,
      digits_more n (omega (arith, tens_some w)) l,
      digits_above w (n / 10) ((le-div_iff_mul-le {k = 10} (omega arith)).1 h) (omega arith),
    )

-- and no more than one that it does not reach
pub digits_below : (w n : ℕ) → 1 ≤ w → n < tens w → n < 2 ^ 64 → length (digits n) ≤ w
digits_below zero n m h l = absurd (omega arith)
digits_below (suc zero) n m h l = omega (arith, digits_one n h)
digits_below (suc (suc w)) n m h l =
    by (ltb n 10) refl (digits_below (suc w) (n / 10) (omega arith) ((div-lt_iff_lt-mul {k = 10} (omega arith)).1 h) (omega arith))
  where
    by : (t : Bool) → ltb n 10 ≡ t → length (digits (n / 10)) ≤ suc w → length (digits n) ≤ suc (suc w)
    by true t r = omega (arith, digits_one n (ltb-true n 10 t))
    by false t r = omega (arith, digits_more n (ltb-false n 10 t) l)

-- the whole part of a number's logarithm to the base ten is one less than it has digits
pub digits_log :
    (n k : ℕ) → 10 ^ k ≤ n → n < 10 * 10 ^ k → n < 2 ^ 64 → length (digits n) ≡ k + 1
digits_log n k low high l =
    let below : n < tens (suc k) = omega (arith, high, tens_is k) in
    let above : tens k ≤ n = omega (arith, low, tens_is k) in
    omega (arith, digits_above k n above l, digits_below (suc k) n (omega arith) below l)

pub cell_length : (n end : ℕ) → length (cell n end) ≡ length (digits n) + 1
unfolding cell
cell_length n end = length-append (digits n) (end ∷ [])

pub ruleset by_size = (digits_small, digits_two, digits_one)
