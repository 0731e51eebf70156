-- Numbers (document 01, 'The tabbed text'): decimal, without sign or leading zero (`0` itself is allowed).
use Rattle.std.specs.Prelude.{ℕ, zero, suc, ◌+◌, ◌-◌, ◌*◌, ◌/◌, ◌%◌, Bool, cond, ◌&&◌, List, [], ◌∷◌, ◌++◌, leb, ltb, eqb, Option, Some, None}

-- the byte of a digit
abbrev pub digit : ℕ → ℕ
digit d = 48 + d

unfoldable pub is_digit : ℕ → Bool
is_digit b = leb 48 b && leb b 57

-- one more digit after a value, if the number stays within its most
unfoldable pub appended : ℕ → ℕ → ℕ → Option ℕ
appended most v b = cond (is_digit b && leb (10 * v + (b - 48)) most) (Some (10 * v + (b - 48))) None

unfoldable pub more : ℕ → Option ℕ → ℕ → Option ℕ
more most None b = None
more most (Some v) b = appended most v b

-- the digits of a number, after those that came to the number so far
unfoldable pub onwards : ℕ → Option ℕ → List ℕ → Option ℕ
onwards most n [] = n
onwards most n (b ∷ s) = onwards most (more most n b) s

unfoldable pub alone : List ℕ → Option ℕ
alone [] = Some 0
alone (b ∷ s) = None

-- a field as a number that is at most `most`
unfoldable pub decimal : ℕ → List ℕ → Option ℕ
decimal most [] = None
decimal most (b ∷ s) = cond (eqb b (digit 0)) (alone s) (onwards most (Some 0) (b ∷ s))

-- a number of up to so many digits, written with the fewest that hold it
unfoldable pub digits_up_to : ℕ → ℕ → List ℕ
digits_up_to zero n = []
digits_up_to (suc k) n = cond (ltb n 10) (digit n ∷ []) (digits_up_to k (n / 10) ++ (digit (n % 10) ∷ []))

-- 20 digits hold every number of 64 bits
unfoldable pub digits : ℕ → List ℕ
digits n = digits_up_to 20 n

-- a number with what ends its field: a tab, or the LF after the last
unfoldable pub cell : ℕ → ℕ → List ℕ
cell n end = digits n ++ (end ∷ [])
