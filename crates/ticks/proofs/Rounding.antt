-- Division rounded up is the least quotient that reaches the dividend.
-- Assumes nothing.
use Rattle.std.proofs.Common.{◌≡◌, ℕ, zero, suc, ◌+◌, ◌-◌, ◌*◌, ◌/◌, ◌<◌, ◌≤◌, mod-lt, div-lt_iff_lt-mul, add-mul, one-mul, div-add-mod', le-mul_of_pos_right, arith}
use native.Mathlib.Nat.{div-zero, div-eq_of_lt-le}
use Rattle.ticks.specs.Grains.{div_up}

one_more : (q d : ℕ) → (q + 1) * d ≡ q * d + d
one_more q d = simp (add-mul, one-mul)

-- the only q with a ≤ q×d < a + d
pub div_up_unique : (a d q : ℕ) → 1 ≤ d → a ≤ q * d → q * d < a + d → div_up a d ≡ q
unfolding div_up
div_up_unique a d q pos reaches least =
    div-eq_of_lt-le d {m = a + (d - 1)} (omega arith) (omega (arith, one_more q d))

pub div_up_least : (a d k : ℕ) → 1 ≤ d → (div_up a d ≤ k → a ≤ k * d) × (a ≤ k * d → div_up a d ≤ k)
unfolding div_up
div_up_least a d k pos = (there, back)
  where
    there : div_up a d ≤ k → a ≤ k * d
    there h =
        let r : a + (d - 1) < (k + 1) * d = (div-lt_iff_lt-mul {k = d} {x = a + (d - 1)} {y = k + 1} pos).0 (omega arith) in
        omega (arith, one_more k d)

    back : a ≤ k * d → div_up a d ≤ k
    back h =
        let r : a + (d - 1) < (k + 1) * d = omega (arith, one_more k d) in
        let s = (div-lt_iff_lt-mul {k = d} {x = a + (d - 1)} {y = k + 1} pos).1 r in
        omega arith

pub div_up_mono : (a b d : ℕ) → 1 ≤ d → a ≤ b → div_up a d ≤ div_up b d
div_up_mono a b d pos h =
    let r : b ≤ div_up b d * d = (div_up_least b d (div_up b d) pos).0 (omega arith) in
    (div_up_least a d (div_up b d) pos).1 (omega arith)

-- it is never above the dividend
pub div_up_most : (a d : ℕ) → 1 ≤ d → div_up a d ≤ a
div_up_most a d pos = (div_up_least a d a pos).1 (le-mul_of_pos_right a pos)

pub div_up_by_zero : (a : ℕ) → div_up a 0 ≡ 0
unfolding div_up
div_up_by_zero a = div-zero (a + (0 - 1))

-- by a single division: nothing of nothing, and otherwise one more than the quotient of one less
pub div_up_zero : (d : ℕ) → div_up 0 d ≡ 0
div_up_zero zero = div_up_by_zero 0
div_up_zero (suc d) = div_up_unique 0 (suc d) 0 (omega arith) (omega arith) (omega arith)

pub div_up_positive : (a d : ℕ) → 1 ≤ a → 1 ≤ d → div_up a d ≡ (a - 1) / d + 1
div_up_positive a d some pos =
    let below = div-add-mod' (a - 1) d in
    let rest = mod-lt (a - 1) {m = d} pos in
    let more = one_more ((a - 1) / d) d in
    div_up_unique a d ((a - 1) / d + 1) pos (omega arith) (omega arith)
