-- Document 01, 'Grains': a plan is limit N units per period of P milliseconds, with burst B. All reckoning is in
-- ticks (document 01's grains).
use Rattle.std.specs.Prelude.{ℕ, ◌+◌, ◌-◌, ◌*◌, ◌/◌, ◌≤◌, Bool, ◌&&◌, nat_le}
use Rattle.ticks.specs.declared.plan.Plan.{Plan}

-- one millisecond is N ticks
unfoldable pub ticks_in : Plan → ℕ → ℕ
ticks_in p span = span * p.limit

-- one unit costs P ticks
unfoldable pub price : Plan → ℕ → ℕ
price p cost = p.period * cost

-- a full bucket holds P×B
unfoldable pub capacity : Plan → ℕ
capacity p = p.period * p.burst

-- a / d rounded up; by 0 it is 0, as a / 0 is
unfoldable pub div_up : ℕ → ℕ → ℕ
div_up a d = (a + (d - 1)) / d

-- the table of limits: the most of each; the least is 1
abbrev pub most_limit : ℕ
most_limit = 1000000

-- 31 days, in milliseconds
abbrev pub most_period : ℕ
most_period = 2678400000

abbrev pub most_burst : ℕ
most_burst = 1000000

-- the latest moment, 2^42 - 1 ms
abbrev pub last_moment : ℕ
last_moment = 4398046511103

-- from 1 up to the most
unfoldable pub one_to : ℕ → ℕ → Bool
one_to most x = nat_le 1 x && nat_le x most

-- limit, period and burst are within their limits (check 1)
unfoldable pub plan_ok : Plan → Bool
plan_ok p = one_to most_limit p.limit && (one_to most_period p.period && one_to most_burst p.burst)

-- the moment is within its limit (check 3)
unfoldable pub on_clock : ℕ → Bool
on_clock at = nat_le at last_moment

-- the facts of a plan within its limits
pub record WithinLimits (p : Plan) : Type 0 where
  pub limit_least : 1 ≤ p.limit
  pub limit_most : p.limit ≤ most_limit
  pub period_least : 1 ≤ p.period
  pub period_most : p.period ≤ most_period
  pub burst_least : 1 ≤ p.burst
  pub burst_most : p.burst ≤ most_burst

-- what the inner functions require: checks 1 and 3 have passed
pub record InForce (p : Plan) (at : ℕ) : Type 0 where
  pub plan : WithinLimits p
  pub moment : at ≤ last_moment
