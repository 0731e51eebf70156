-- The laws of this crate: what holds of its definitions, for all numbers. proofs/Laws shows them.
use Rattle.std.specs.Prelude.{◌≡◌, ℕ, ◌+◌, ◌-◌, ◌*◌, ◌≤◌, true, false}
use Rattle.ticks.specs.declared.plan.Plan.{Plan}
use Rattle.ticks.specs.Grains.{ticks_in, price, capacity, div_up, plan_ok, on_clock}

-- document 01, the table of limits, in its own numbers: what is within them, and what is one beyond or more
pub record Limits : Type 0 where
  pub plan_within :
      (p : Plan) → 1 ≤ p.limit → p.limit ≤ 1000000 → 1 ≤ p.period → p.period ≤ 2678400000 → 1 ≤ p.burst → p.burst ≤ 1000000 →
      plan_ok p ≡ true
  pub limit_none : (p : Plan) → p.limit ≡ 0 → plan_ok p ≡ false
  pub limit_beyond : (p : Plan) → 1000001 ≤ p.limit → plan_ok p ≡ false
  pub period_none : (p : Plan) → p.period ≡ 0 → plan_ok p ≡ false
  pub period_beyond : (p : Plan) → 2678400001 ≤ p.period → plan_ok p ≡ false
  pub burst_none : (p : Plan) → p.burst ≡ 0 → plan_ok p ≡ false
  pub burst_beyond : (p : Plan) → 1000001 ≤ p.burst → plan_ok p ≡ false
  pub moment_within : (at : ℕ) → at ≤ 4398046511103 → on_clock at ≡ true
  pub moment_beyond : (at : ℕ) → 4398046511104 ≤ at → on_clock at ≡ false

-- document 01, 'Grains': one millisecond is N ticks, one unit costs P, a full bucket holds P×B
pub record Reckoning (p : Plan) : Type 0 where
  pub ticks_are : (span : ℕ) → ticks_in p span ≡ span * p.limit
  pub price_is : (cost : ℕ) → price p cost ≡ p.period * cost
  pub capacity_is : capacity p ≡ p.period * p.burst
  -- ticks of a time that is the sum of two
  pub ticks_split : (l k : ℕ) → l ≤ k → ticks_in p k ≡ ticks_in p l + ticks_in p (k - l)
  -- what costs come to together
  pub price_add : (a b : ℕ) → price p (a + b) ≡ price p a + price p b

-- rounded up: the least quotient that reaches the dividend
pub record Rounding : Type 0 where
  pub div_up_least : (a d k : ℕ) → 1 ≤ d → (div_up a d ≤ k → a ≤ k * d) × (a ≤ k * d → div_up a d ≤ k)
  pub div_up_by_zero : (a : ℕ) → div_up a 0 ≡ 0
