-- Runs on two slots with what a host counts in them (document 02, Item 7): a run that meets the ceiling, one with a clear, and one with
-- changes of plan.
use Rattle.std.specs.Prelude.{◌+◌, ◌-◌, ◌*◌, ◌≡◌, List, [], ◌∷◌}
use Rattle.ticks.specs.declared.plan.Plan.{Plan}
use Rattle.ticks.specs.Grains.{ticks_in, price, capacity}
use Rattle.plans.specs.Plans.{plan_at}
use Rattle.table_gcra.specs.Table as gcra_table
use Rattle.table_token_bucket.specs.Table as token_bucket_table
use Rattle.law_history.specs.Run.{Call, acquire, peek, clear, history, answers}
use Rattle.law_history.specs.Worked.{terms}
use Rattle.law_ceiling.specs.Counted.{units, booked, noted, notes}
use Rattle.law_ceiling.specs.Ceiling.{ceiling}
use Rattle.law_ceiling.specs.Least.{greedy}

-- plan 0 is document 01's; plan 1 is slower and has a larger burst
unfoldable pub plans : List Plan
plans =
    terms 3 1000 2
    ∷ terms 1 1000 4
    ∷ []

-- In the lists below an acquire has a moment, a subscriber, a plan's number and a cost.

-- Shop 7 gets 2 + 3 = 5 units from moment 0 to moment 1000, and 3×1000 + 1000×2 = 1000×5.
unfoldable pub meeting : List Call
meeting =
    acquire 0 7 0 2
    -- another shop, which is counted by itself
    ∷ acquire 0 8 0 2
    -- a millisecond too early: a refusal is not counted, nor is a look
    ∷ acquire 333 7 0 1
    ∷ acquire 334 7 0 1
    ∷ peek 500 7 0
    ∷ acquire 667 7 0 1
    -- the last millisecond counts
    ∷ acquire 1000 7 0 1
    -- a sixth unit waits
    ∷ acquire 1000 7 0 1
    ∷ acquire 1000 8 0 2
    ∷ []

-- A clear gives a whole burst anew: 2 units before it and 2 after it at one moment.
unfoldable pub clearing : List Call
clearing =
    acquire 500 7 0 2
    ∷ acquire 500 7 0 1
    ∷ clear
    ∷ acquire 500 7 0 2
    ∷ []

-- A shop that owes nothing has the whole burst of another plan: from moment 0 to moment 667 it gets 2 units under plan 0 and 4 under
-- plan 1, where each plan's ceiling is 4. Back under plan 0 the first 2 count with the last 2.
unfoldable pub changing : List Call
changing =
    acquire 0 7 0 2
    ∷ acquire 666 7 1 4
    ∷ acquire 667 7 1 4
    ∷ acquire 4666 7 0 2
    ∷ acquire 4667 7 0 2
    ∷ []

-- what is counted in them: of a shop, under a plan, from a moment to a moment
pub record Counts : Type 0 where
  -- N × L + P × B = P × c, with both ends; without the last millisecond, and without the first; and of the other shop
  pub five : units 7 0 0 1000 (booked 2 plans meeting) ≡ 5
  pub meets :
      price (plan_at plans 0) (units 7 0 0 1000 (booked 2 plans meeting)) ≡ ticks_in (plan_at plans 0) (1000 - 0) + capacity (plan_at plans 0)
  pub in_figures : 3 * 1000 + 1000 * 2 ≡ 1000 * 5
  pub without_the_last : units 7 0 0 999 (booked 2 plans meeting) ≡ 4
  pub without_the_first : units 7 0 1 1000 (booked 2 plans meeting) ≡ 3
  pub of_the_other : units 8 0 0 1000 (booked 2 plans meeting) ≡ 4
  -- since the clear
  pub since_the_clear : units 7 0 500 500 (booked 2 plans clearing) ≡ 2
  -- a host notes neither the refusals nor what was before the clear
  pub noted_five : units 7 0 0 1000 (noted [] meeting (answers (history 2) plans [] meeting)) ≡ 5
  pub noted_since : units 7 0 500 500 (noted [] clearing (answers (history 2) plans [] clearing)) ≡ 2
  -- under each plan, and the ceilings of both, which the sum would break
  pub under_plan_0 : units 7 0 0 667 (booked 2 plans changing) ≡ 2
  pub under_plan_1 : units 7 1 0 667 (booked 2 plans changing) ≡ 4
  pub ceilings : (ceiling (plan_at plans 0) 667 ≡ 4) × (ceiling (plan_at plans 1) 667 ≡ 4)
  pub and_back : units 7 0 0 4667 (booked 2 plans changing) ≡ 4
  -- the greediest of 1 unit per 2 ms and a burst of 2 has 2 + 2 after 4 ms
  pub greedy_four : units 7 0 0 4 (booked 2 (terms 1 2 2 ∷ []) (greedy (terms 1 2 2) 0 7 4)) ≡ 4

-- a host that asks either engine on two slots that it has cleared counts the same five
pub record Played : Type 0 where
  pub by_gcra :
      (t : gcra_table.Table) → (gcra_table.columns).slots t ≡ 2 → (gcra_table.clear t).answer.number ≡ 0 →
      units 7 0 0 1000 (notes gcra_table.rule gcra_table.columns plans t meeting) ≡ 5
  pub by_token_bucket :
      (b : token_bucket_table.Table) → (token_bucket_table.columns).slots b ≡ 2 → (token_bucket_table.clear b).answer.number ≡ 0 →
      units 7 0 0 1000 (notes token_bucket_table.rule token_bucket_table.columns plans b meeting) ≡ 5
