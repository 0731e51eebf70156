-- The laws of this crate: GCRA has the backlog law (`Lawful`, rate), and what is stored means what document 01 says, for any stored
-- number. proofs/Laws shows them.
use Rattle.std.specs.Prelude.{ℕ, ◌+◌, ◌≤◌, ◌<◌, max, ◌≡◌, true, false, leb}
use Rattle.ticks.specs.declared.plan.Plan.{Plan}
use Rattle.ticks.specs.declared.units.Ticks.{Ticks}
use Rattle.ticks.specs.Grains.{ticks_in, price, capacity}
use Rattle.rate.specs.Lawful.{Lawful}
use Rattle.rule_gcra.specs.Gcra.{gcra}

pub record GcraLaws : Type 0 where
  pub lawful : Lawful gcra
  -- a record is impossible exactly if TAT > m + P×B
  pub possible : (p : Plan) (at : ℕ) (tat : Ticks) → tat.0 ≤ ticks_in p at + capacity p → gcra.sound p at tat ≡ true
  pub impossible : (p : Plan) (at : ℕ) (tat : Ticks) → ticks_in p at + capacity p < tat.0 → gcra.sound p at tat ≡ false
  -- free exactly if TAT ≤ m
  pub free_test : (p : Plan) (at : ℕ) (tat : Ticks) → gcra.free p at tat ≡ leb tat.0 (ticks_in p at)
  -- after an admission the TAT is t + P×cost
  pub spent_tat :
      (p : Plan) (at : ℕ) (tat : Ticks) (cost : ℕ) → (gcra.spend p at tat cost).0 ≡ max tat.0 (ticks_in p at) + price p cost
