-- What a moment is in ticks of the plans lent, by which many records are compared.
use Rattle.std.specs.Prelude.{◌≡◌, List, ℕ, ◌-◌, ◌^◌, ◌<◌, min, length, get_or}
use Rattle.ticks.specs.declared.plan.Plan.{Plan}
use Rattle.ticks.specs.Grains.{ticks_in}
use Rattle.plans.specs.Plans.{plan_at}

-- what the moment is in ticks of each plan that is lent; the largest u64 where it is beyond that
pub record Drained (ps : List Plan) (at : ℕ) (column : List ℕ) : Type 0 where
  pub each : (k : ℕ) → k < length ps → get_or column k 0 ≡ min (ticks_in (plan_at ps k) at) (2 ^ 64 - 1)
