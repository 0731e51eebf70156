-- The laws of this crate hold.
-- Assumes nothing.
use Rattle.ticks.specs.declared.plan.Plan.{Plan}
use Rattle.ticks.specs.Laws.{Limits, Reckoning, Rounding}
use Rattle.ticks.proofs.Limits as limits
use Rattle.ticks.proofs.Products as products
use Rattle.ticks.proofs.Rounding as rounding

pub within_document : Limits
within_document =
    record {
      plan_within = limits.plan_within;
      limit_none = limits.limit_none;
      limit_beyond = limits.limit_beyond;
      period_none = limits.period_none;
      period_beyond = limits.period_beyond;
      burst_none = limits.burst_none;
      burst_beyond = limits.burst_beyond;
      moment_within = limits.moment_within;
      moment_beyond = limits.moment_beyond;
    }

pub reckoned : (p : Plan) → Reckoning p
reckoned p =
    record {
      ticks_are = limits.ticks_are p;
      price_is = limits.price_is p;
      capacity_is = limits.capacity_is p;
      ticks_split = products.ticks_split p;
      price_add = products.price_add p;
    }

pub rounded : Rounding
rounded = record { div_up_least = rounding.div_up_least; div_up_by_zero = rounding.div_up_by_zero }
