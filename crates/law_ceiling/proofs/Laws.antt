-- The laws of the ceiling hold.
-- Assumes nothing.
use mathlib.Core.Path.{◌∙◌}
use Prim.Native.Nat.{ℕ, ◌+◌, ◌*◌, ◌≤◌}
use native.Mathlib.Nat.{mul_comm}
use native.Mathlib.Omega.{arith}
use Rattle.ticks.specs.declared.plan.Plan.{Plan}
use Rattle.ticks.proofs.Limits.{capacity_is, price_is, ticks_are}
use Rattle.law_ceiling.specs.Ceiling.{Within}
use Rattle.law_ceiling.specs.Laws.{CeilingLaws}
use Rattle.law_ceiling.proofs.Ceiling.{ceiling}
use Rattle.law_ceiling.proofs.Least.{least}
use Rattle.law_ceiling.proofs.Worked.{counts}
use Rattle.law_ceiling.proofs.Agreed.{played}

formula :
    (p : Plan) (length cost : ℕ) →
    (Within p length cost → p.period * cost ≤ p.limit * length + p.period * p.burst)
    × (p.period * cost ≤ p.limit * length + p.period * p.burst → Within p length cost)
formula p length cost =
    let brings = ticks_are p length ∙ mul_comm length p.limit in
    (λ h. omega (arith, h, price_is p cost, brings, capacity_is p), λ h. omega (arith, h, price_is p cost, brings, capacity_is p))

pub ceiling_laws : CeilingLaws
ceiling_laws = record { formula = formula; ceiling = ceiling; least = least; counts = counts; played = played }
