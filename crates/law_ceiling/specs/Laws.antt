-- The laws of the ceiling (document 02, Item 7). proofs/Laws shows them.
use Rattle.std.specs.Prelude.{ℕ, ◌+◌, ◌*◌, ◌≤◌}
use Rattle.ticks.specs.declared.plan.Plan.{Plan}
use Rattle.law_ceiling.specs.Ceiling.{Within, Ceiling}
use Rattle.law_ceiling.specs.Least.{Least}
use Rattle.law_ceiling.specs.Worked.{Counts, Played}

pub record CeilingLaws : Type 0 where
  -- the document's formula: N × L + P × B ≥ P × c
  pub formula :
      (p : Plan) (length cost : ℕ) →
      (Within p length cost → p.period * cost ≤ p.limit * length + p.period * p.burst)
      × (p.period * cost ≤ p.limit * length + p.period * p.burst → Within p length cost)
  -- no run goes above it
  pub ceiling : Ceiling
  -- .. nor can it be lower, and for which plans
  pub least : Least
  -- runs, what is counted in them, and that a host counts the same
  pub counts : Counts
  pub played : Played
