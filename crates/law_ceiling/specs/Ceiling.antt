-- Document 02, Item 7: a ceiling for a contract. For one plan and one subscriber, between one clear and the next: in any stretch of L
-- milliseconds, both end moments included, the admitted cost c satisfies N × L + P × B ≥ P × c.
use Rattle.std.specs.Prelude.{ℕ, ◌+◌, ◌-◌, ◌/◌, ◌≤◌, ◌≡◌, List, [], ◌∷◌, ◌++◌}
use Rattle.ticks.specs.declared.plan.Plan.{Plan}
use Rattle.ticks.specs.Grains.{ticks_in, price, capacity, WithinLimits}
use Rattle.plans.specs.Plans.{plan_at}
use Rattle.table_gcra.specs.Table as gcra_table
use Rattle.table_token_bucket.specs.Table as token_bucket_table
use Rattle.law_history.specs.History.{Entry, calls_of, costs}
use Rattle.law_history.specs.Run.{Call}
use Rattle.law_ceiling.specs.Counted.{units, booked, notes}

-- N × L + P × B ≥ P × c
abbrev pub Within : Plan → ℕ → ℕ → Type 0
Within p length cost = price p cost ≤ ticks_in p length + capacity p

-- the most units in a stretch of L ms: B + N × L / P, rounded down
unfoldable pub ceiling : Plan → ℕ → ℕ
ceiling p length = p.burst + ticks_in p length / p.period

-- calls that all name one plan
abbrev pub Under : ℕ → List Entry → Type 0
Under number [] = Unit {0}
Under number (e ∷ rest) = (e.plan ≡ number) × Under number rest

-- the last of some calls
unfoldable pub last_of : Entry → List Entry → Entry
last_of e [] = e
last_of e (x ∷ rest) = last_of x rest

-- a list of admitted calls keeps the ceiling
pub record Bounded (ps : List Plan) (h : List Entry) : Type 0 where
  -- of any two moments, and of the calls under one plan, whichever others the subscriber named between them
  pub moments : (who number from to : ℕ) → Within (plan_at ps number) (to - from) (units who number from to h)
  -- .. and in whole units, as a customer reads it
  pub rounded :
      (who number from to : ℕ) → WithinLimits (plan_at ps number) → units who number from to h ≤ ceiling (plan_at ps number) (to - from)
  -- of any two places of a subscriber's list, between changes of plan (document 02, Item 3)
  pub places :
      (who : ℕ) (earlier : List Entry) (first : Entry) (between later : List Entry) →
      calls_of who h ≡ earlier ++ ((first ∷ between) ++ later) → Under first.plan between →
      Within (plan_at ps first.plan) ((last_of first between).moment - first.moment) (costs (first ∷ between))

-- over any run, under any plans: the history from the empty one on, and what a host notes of each engine from a clear that answered 0 on
pub record Ceiling : Type 0 where
  pub of_history : (ps : List Plan) (slots : ℕ) (run : List Call) → Bounded ps (booked slots ps run)
  pub of_gcra :
      (ps : List Plan) (t : gcra_table.Table) (run : List Call) → (gcra_table.clear t).answer.number ≡ 0 →
      Bounded ps (notes gcra_table.rule gcra_table.columns ps t run)
  pub of_token_bucket :
      (ps : List Plan) (b : token_bucket_table.Table) (run : List Call) → (token_bucket_table.clear b).answer.number ≡ 0 →
      Bounded ps (notes token_bucket_table.rule token_bucket_table.columns ps b run)
