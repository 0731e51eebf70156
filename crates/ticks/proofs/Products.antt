-- Ticks of times that add up, and the products that reckon them.
-- Assumes nothing.
use Rattle.std.proofs.Common.{◌≡◌, ℕ, ◌+◌, ◌-◌, ◌*◌, ◌/◌, ◌%◌, ◌^◌, ◌≤◌, sym, ap, ◌∙◌, add-mul, mul-le-mul_left, mul-zero, div-add-mod', zero-mul, mul-add, mul_right_comm, arith}
use native.Mathlib.Nat.{sub_self}
use Rattle.ticks.specs.declared.plan.Plan.{Plan}
use Rattle.ticks.specs.Grains.{ticks_in, price}

-- ticks of a time that is the sum of two
pub ticks_split : (p : Plan) (l k : ℕ) → l ≤ k → ticks_in p k ≡ ticks_in p l + ticks_in p (k - l)
unfolding ticks_in
ticks_split p l k h = let e : k ≡ l + (k - l) = omega arith in rw (← add-mul l (k - l) p.limit, ← e)

-- ticks of no time
pub ticks_none : (p : Plan) (at : ℕ) → ticks_in p (at - at) ≡ 0
unfolding ticks_in
ticks_none p at = simp (sub_self, zero-mul)

-- a plan with a larger limit has more of them
pub ticks_larger : (p q : Plan) (at : ℕ) → p.limit ≤ q.limit → ticks_in p at ≤ ticks_in q at
unfolding ticks_in
ticks_larger p q at h = mul-le-mul_left at h

-- a longer time has more of them
pub ticks_longer : (p : Plan) (l k : ℕ) → l ≤ k → ticks_in p l ≤ ticks_in p k
ticks_longer p l k h = omega (arith, ticks_split p l k h)

-- what costs come to together, and what nothing costs
pub price_add : (p : Plan) (a b : ℕ) → price p (a + b) ≡ price p a + price p b
unfolding price
price_add p a b = mul-add p.period a b

pub price_larger : (p : Plan) (a b : ℕ) → a ≤ b → price p a ≤ price p b
price_larger p a b h = let e : b ≡ a + (b - a) = omega arith in omega (arith, price_add p a (b - a), ap (λ (x : ℕ). price p x) e)

pub price_none : (p : Plan) → price p 0 ≡ 0
unfolding price
price_none p = mul-zero p.period

-- a product by way of the upper and the lower 32 bits of one factor
pub product_split : (s n : ℕ) → s * n ≡ s / 2 ^ 32 * n * 2 ^ 32 + s % 2 ^ 32 * n
product_split s n =
    let whole : s ≡ s / 2 ^ 32 * 2 ^ 32 + s % 2 ^ 32 = sym (div-add-mod' s (2 ^ 32)) in
    ap (λ (x : ℕ). x * n) whole ∙ add-mul (s / 2 ^ 32 * 2 ^ 32) (s % 2 ^ 32) n
    ∙ ap (λ (x : ℕ). x + s % 2 ^ 32 * n) (mul_right_comm (s / 2 ^ 32) (2 ^ 32) n)
