-- The plans for which no lower ceiling holds (document 02, Item 7).
use Rattle.std.specs.Prelude.{ℕ, zero, suc, ◌+◌, ◌-◌, ◌%◌, ◌≤◌, ◌≡◌, true, List, [], ◌∷◌, ◌++◌}
use Rattle.ticks.specs.declared.plan.Plan.{Plan}
use Rattle.ticks.specs.Grains.{ticks_in, price, capacity, last_moment, WithinLimits}
use Rattle.plans.specs.Plans.{plans_of, plan_at, plans_ok}
use Rattle.table.specs.Checks.{slots_ok}
use Rattle.table_gcra.specs.Table as gcra_table
use Rattle.table_token_bucket.specs.Table as token_bucket_table
use Rattle.law_history.specs.History.{Entry}
use Rattle.law_history.specs.Run.{Call, acquire}
use Rattle.law_ceiling.specs.Counted.{units, booked, notes}
use Rattle.law_ceiling.specs.Ceiling.{Within, ceiling}

-- the greediest subscriber of a plan, up to a moment: the whole burst at 0, and at every millisecond the units that have come in since
-- the one before (an ask for none is refused with 5, and changes nothing)
unfoldable pub greedy : Plan → ℕ → ℕ → ℕ → List Call
greedy p number who zero = acquire 0 who number p.burst ∷ []
greedy p number who (suc t) = greedy p number who t ++ (acquire (suc t) who number (ceiling p (suc t) - ceiling p t) ∷ [])

-- the plans for which it is the least: N + P ≤ P × B + d for a common divisor d of N and P
pub record Attainable (p : Plan) : Type 0 where
  pub divisor : ℕ
  pub of_limit : p.limit % divisor ≡ 0
  pub of_period : p.period % divisor ≡ 0
  pub fits : p.limit + p.period ≤ capacity p + divisor

-- what the greedy run needs: plans that pass check 1, such a plan among them, and somebody who asks
pub record Greedy (ps : List Plan) (number who : ℕ) : Type 0 where
  pub lent : plans_ok (plans_of ps number) ≡ true
  pub plan : Attainable (plan_at ps number)
  pub subscriber : 1 ≤ who

-- what the greediest was admitted from moment 0 to moment T
abbrev pub Reached : List Plan → ℕ → ℕ → ℕ → List Entry → Type 0
Reached ps number who last h = units who number 0 last h ≡ ceiling (plan_at ps number) last

pub record Least : Type 0 where
  -- what is within the ceiling is at most that many units, and what is at most that many is within it
  pub rounded_down :
      (p : Plan) → WithinLimits p → (length cost : ℕ) →
      (Within p length cost → cost ≤ ceiling p length) × (cost ≤ ceiling p length → Within p length cost)
  -- for these plans and every T up to the clock's end the greedy run reaches it: in the history, and in what a host notes of each engine
  pub reached :
      (ps : List Plan) (number who last : ℕ) → Greedy ps number who → last ≤ last_moment → (slots : ℕ) → slots_ok slots ≡ true →
      Reached ps number who last (booked slots ps (greedy (plan_at ps number) number who last))
  pub reached_by_gcra :
      (ps : List Plan) (number who last : ℕ) → Greedy ps number who → last ≤ last_moment → (t : gcra_table.Table) →
      (gcra_table.clear t).answer.number ≡ 0 →
      Reached ps number who last (notes gcra_table.rule gcra_table.columns ps t (greedy (plan_at ps number) number who last))
  pub reached_by_token_bucket :
      (ps : List Plan) (number who last : ℕ) → Greedy ps number who → last ≤ last_moment → (b : token_bucket_table.Table) →
      (token_bucket_table.clear b).answer.number ≡ 0 →
      Reached ps number who last (notes token_bucket_table.rule token_bucket_table.columns ps b (greedy (plan_at ps number) number who last))
  -- so over one period, in which nothing is rounded, N × L + P × B = P × c
  pub met :
      (p : Plan) → WithinLimits p → price p (ceiling p p.period) ≡ ticks_in p p.period + capacity p
  -- and no run meets it under another plan, in any stretch longer than 0
  pub only :
      (ps : List Plan) (slots : ℕ) (run : List Call) (who number from length : ℕ) → WithinLimits (plan_at ps number) → 1 ≤ length →
      price (plan_at ps number) (units who number from (from + length) (booked slots ps run))
      ≡ ticks_in (plan_at ps number) length + capacity (plan_at ps number) →
      Attainable (plan_at ps number)
  -- among these plans are all with B ≥ N, all with a burst of 2 or more and at most a unit a millisecond, and all whose N divides P; but
  -- not 1000 units a millisecond with a burst of 1
  pub bursty : (p : Plan) → WithinLimits p → p.limit ≤ p.burst → Attainable p
  pub slow : (p : Plan) → WithinLimits p → 2 ≤ p.burst → p.limit ≤ p.period → Attainable p
  pub dividing : (p : Plan) → WithinLimits p → p.period % p.limit ≡ 0 → Attainable p
  pub not_every : Attainable (record { limit = 1000; period = 1; burst = 1 }) → ⊥
