-- Document 02, Item 3: up to 16 plans, lent together; a record keeps the number of its plan. One step between an engine and an
-- account, said once for any engine.
use Rattle.std.specs.Prelude.{◌≡◌, ℕ, ◌≤◌, ◌<◌, Bool, true, cond, ◌&&◌, ◌||◌, List, [], ◌∷◌, eqb, leb, ltb, length, get_or}
use Rattle.ticks.specs.declared.plan.Plan.{Plan}
use Rattle.ticks.specs.Grains.{capacity, plan_ok, on_clock, WithinLimits}
use Rattle.rate.specs.Engine.{Engine}
use Rattle.rate.specs.Account.{Account}
pub use Rattle.plans.specs.declared.planned.Planned.{Planned}

-- the most plans that may be lent; the least is 1
abbrev pub most_plans : ℕ
most_plans = 16

-- a setting: the plans lent, and the number of the one that is asked for
pub record Plans : Type 0 where
  pub plans : List Plan
  pub number : ℕ

abbrev pub plans_of : List Plan → ℕ → Plans
plans_of plans number = record { plans = plans; number = number }

-- what is stored (`Planned`, of the code): the number of the plan, and the engine's record
abbrev pub planned_of : {R : Type 0} → ℕ → R → Planned R
planned_of number held = record { number = number; held = held }

-- a plan with the number is lent
unfoldable pub known : List Plan → ℕ → Bool
known plans number = ltb number (length plans)

-- the plan with a number
unfoldable pub plan_at : List Plan → ℕ → Plan
plan_at plans number = get_or plans number (record { limit = 0; period = 0; burst = 0 })

-- every plan is within its limits
unfoldable pub all_ok : List Plan → Bool
all_ok [] = true
all_ok (p ∷ rest) = plan_ok p && all_ok rest

-- not none, and no more than 16
unfoldable pub count_ok : ℕ → Bool
count_ok count = leb 1 count && leb count most_plans

-- the plans lent are that many, and no bad one is among them
unfoldable pub lent_ok : List Plan → Bool
lent_ok plans = count_ok (length plans) && all_ok plans

-- check 1: the plans lent are good, and the one asked for is among them
unfoldable pub plans_ok : Plans → Bool
plans_ok p = lent_ok p.plans && known p.plans p.number

-- what the inner functions require: checks 1 and 3 have passed
pub record Lending (p : Plans) (at : ℕ) : Type 0 where
  pub plans : plans_ok p ≡ true
  pub moment : on_clock at ≡ true

-- the facts of a good list of plans
pub record Lent (plans : List Plan) : Type 0 where
  pub least : 1 ≤ length plans
  pub most : length plans ≤ most_plans
  pub each : (k : ℕ) → k < length plans → WithinLimits (plan_at plans k)

-- a plan that drains no slower and holds no more than another, so that what is not free by it is not free by the other
pub record Looser (p q : Plan) : Type 0 where
  pub limit : q.limit ≤ p.limit
  pub holds : capacity p ≤ capacity q

-- the plan asked for
abbrev pub asked : Plans → Plan
asked p = plan_at p.plans p.number

module _ {R : Type 0} (E : Engine R) (p : Plans) (at : ℕ) (r : Planned R) where
  -- the record's own plan
  abbrev pub its : Plan
  its = plan_at p.plans r.number

  -- the record is possible by its own plan; an unknown number makes it impossible (number 7)
  unfoldable pub possible : Bool
  possible = known p.plans r.number && E.sound its at r.held

  -- what it owes by its own plan
  unfoldable pub owing : ℕ
  owing = E.backlog its at r.held

  -- the number of its fault: 7; or just after it 12, if it still owes and another plan is asked for
  unfoldable pub fault_of : ℕ
  fault_of = cond possible (cond (eqb r.number p.number || eqb owing 0) 0 12) 7

  -- what is judged: the record; or, of who owes nothing and asks for another plan, a fresh one
  unfoldable pub current : R
  current = cond (eqb r.number p.number) r.held (E.fresh (asked p) at)

-- an engine under the plans lent. A slot is free by its own plan; all else goes by the plan asked for.
abbrev pub planned : {R : Type 0} → Engine R → Account Plans (Planned R)
planned E =
    record {
      ok = plans_ok;
      plan = asked;
      fresh = λ p at. planned_of p.number (E.fresh (asked p) at);
      fault = fault_of E;
      free = λ p at r. known p.plans r.number && E.free (its E p at r) at r.held;
      backlog = λ p at r. E.backlog (asked p) at (current E p at r);
      admits = λ p at r cost. E.admits (asked p) at (current E p at r) cost;
      spend = λ p at r cost. planned_of p.number (E.spend (asked p) at (current E p at r) cost);
    }
