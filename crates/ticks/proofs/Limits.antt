-- What the tests of the limits say, and how large a number within them can be.
-- Assumes nothing.
use Rattle.std.proofs.Common.{◌≡◌, ℕ, ◌*◌, ◌<◌, ◌≤◌, Bool, true, false, ◌&&◌, leb, refl, ap, ◌∙◌, mul-le-mul, mul-le-mul_left, arith, le-leb, leb-false, leb-true}
use mathlib.Core.Bool.{and-false}
use borrow.Author.Tests.{lt-leb}
use Rattle.ticks.specs.declared.plan.Plan.{Plan}
use Rattle.ticks.specs.Grains.{ticks_in, price, capacity, one_to, plan_ok, on_clock, most_limit, most_period, most_burst, last_moment, WithinLimits, InForce}
use Rattle.ticks.proofs.Tests.{both}

one_to_lem : (most x : ℕ) → one_to most x ≡ true → (1 ≤ x) × (x ≤ most)
unfolding one_to
one_to_lem most x e = let h = both _ _ e in (leb-true _ _ h.0, leb-true _ _ h.1)

pub within_limits : (p : Plan) → plan_ok p ≡ true → WithinLimits p
unfolding plan_ok
within_limits p e =
    let outer = both _ _ e in
    let inner = both _ _ outer.1 in
    let limit = one_to_lem _ _ outer.0 in
    let period = one_to_lem _ _ inner.0 in
    let burst = one_to_lem _ _ inner.1 in
    record {
      limit_least = limit.0;
      limit_most = limit.1;
      period_least = period.0;
      period_most = period.1;
      burst_least = burst.0;
      burst_most = burst.1;
    }

-- document 01's table of limits, in its own numbers
one_to_within : (most x : ℕ) → 1 ≤ x → x ≤ most → one_to most x ≡ true
unfolding one_to
one_to_within most x least within = rw (le-leb 1 x least, le-leb x most within)

one_to_none : (most x : ℕ) → x ≡ 0 → one_to most x ≡ false
unfolding one_to
one_to_none most x none = rw (lt-leb 1 x (omega arith))

one_to_beyond : (most x : ℕ) → most < x → one_to most x ≡ false
unfolding one_to
one_to_beyond most x beyond = rw (lt-leb x most beyond) (and-false (leb 1 x))

module _ (p : Plan) where
  pub plan_within :
      1 ≤ p.limit → p.limit ≤ 1000000 → 1 ≤ p.period → p.period ≤ 2678400000 → 1 ≤ p.burst → p.burst ≤ 1000000 →
      plan_ok p ≡ true
  unfolding plan_ok
  plan_within limit_least limit period_least period burst_least burst =
      rw (
        one_to_within most_limit p.limit limit_least (omega arith),
        one_to_within most_period p.period period_least (omega arith),
        one_to_within most_burst p.burst burst_least (omega arith),
      )

  -- one of the three is outside its limits
  bad_limit : one_to most_limit p.limit ≡ false → plan_ok p ≡ false
  unfolding plan_ok
  bad_limit e = rw e

  bad_period : one_to most_period p.period ≡ false → plan_ok p ≡ false
  unfolding plan_ok
  bad_period e = rw e (and-false (one_to most_limit p.limit))

  bad_burst : one_to most_burst p.burst ≡ false → plan_ok p ≡ false
  unfolding plan_ok
  bad_burst e =
      ap (λ (t : Bool). one_to most_limit p.limit && (one_to most_period p.period && t)) e
      ∙ ap (λ (t : Bool). one_to most_limit p.limit && t) (and-false (one_to most_period p.period))
      ∙ and-false (one_to most_limit p.limit)

  pub limit_none : p.limit ≡ 0 → plan_ok p ≡ false
  limit_none e = bad_limit (one_to_none most_limit p.limit e)

  pub limit_beyond : 1000001 ≤ p.limit → plan_ok p ≡ false
  limit_beyond h = bad_limit (one_to_beyond most_limit p.limit (omega arith))

  pub period_none : p.period ≡ 0 → plan_ok p ≡ false
  period_none e = bad_period (one_to_none most_period p.period e)

  pub period_beyond : 2678400001 ≤ p.period → plan_ok p ≡ false
  period_beyond h = bad_period (one_to_beyond most_period p.period (omega arith))

  pub burst_none : p.burst ≡ 0 → plan_ok p ≡ false
  burst_none e = bad_burst (one_to_none most_burst p.burst e)

  pub burst_beyond : 1000001 ≤ p.burst → plan_ok p ≡ false
  burst_beyond h = bad_burst (one_to_beyond most_burst p.burst (omega arith))

-- the clock's limit, and its number
pub clock_within : (at : ℕ) → at ≤ last_moment → on_clock at ≡ true
unfolding on_clock
clock_within at h = le-leb at last_moment h

pub clock_beyond : (at : ℕ) → last_moment < at → on_clock at ≡ false
unfolding on_clock
clock_beyond at h = lt-leb at last_moment h

pub on_clock_lem : (at : ℕ) → on_clock at ≡ true → at ≤ last_moment
unfolding on_clock
on_clock_lem at e = leb-true _ _ e

pub off_clock : (at : ℕ) → on_clock at ≡ false → last_moment < at
unfolding on_clock
off_clock at e = leb-false _ _ e

pub moment_within : (at : ℕ) → at ≤ 4398046511103 → on_clock at ≡ true
moment_within at h = clock_within at (omega arith)

pub moment_beyond : (at : ℕ) → 4398046511104 ≤ at → on_clock at ≡ false
moment_beyond at h = clock_beyond at (omega arith)

-- checks 1 and 3, passed
pub in_force : (p : Plan) (at : ℕ) → plan_ok p ≡ true → on_clock at ≡ true → InForce p at
in_force p at plan moment = record { plan = within_limits p plan; moment = on_clock_lem at moment }

module _ (p : Plan) (w : WithinLimits p) where
  pub capacity_most : capacity p ≤ most_period * most_burst
  unfolding capacity
  capacity_most = mul-le-mul {n₂ = most_period} {m₂ = most_burst} w.period_most w.burst_most

  pub ticks_most : (at : ℕ) → at ≤ last_moment → ticks_in p at ≤ last_moment * most_limit
  unfolding ticks_in
  ticks_most at h = mul-le-mul {n₂ = last_moment} {m₂ = most_limit} h w.limit_most

-- what a full bucket, a time and a cost come to
pub capacity_is : (p : Plan) → capacity p ≡ p.period * p.burst
unfolding capacity
capacity_is p = refl

pub ticks_are : (p : Plan) (span : ℕ) → ticks_in p span ≡ span * p.limit
unfolding ticks_in
ticks_are p span = refl

pub price_is : (p : Plan) (cost : ℕ) → price p cost ≡ p.period * cost
unfolding price
price_is p cost = refl

-- a full bucket is the price of the burst
pub capacity_is_price : (p : Plan) → capacity p ≡ price p p.burst
unfolding price capacity
capacity_is_price p = refl

pub price_within : (p : Plan) (cost : ℕ) → cost ≤ p.burst → price p cost ≤ capacity p
unfolding price
price_within p cost h = rw capacity_is_price (mul-le-mul_left p.period h)
