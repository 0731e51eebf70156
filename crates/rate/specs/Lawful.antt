-- The backlog law: what an engine's formulas come to, whatever it stores. What is said of engines uses them through this record
-- alone, and through the account that an engine keeps by it (`alone`). specs/Lawful of `rule_gcra` and of `rule_token_bucket`
-- show it of the two engines.
use Rattle.std.specs.Prelude.{◌≡◌, true, ◌&&◌, ℕ, ◌+◌, ◌-◌, ◌≤◌, eqb}
use Rattle.ticks.specs.declared.plan.Plan.{Plan}
use Rattle.ticks.specs.Grains.{ticks_in, price, capacity}
use Rattle.rate.specs.Decision.{admissible}
use Rattle.rate.specs.Engine.{Engine}

pub record Lawful {R : Type 0} (E : Engine R) : Type 0 where
  -- a sound record stays sound
  pub stays_sound : (p : Plan) (l k : ℕ) (r : R) → l ≤ k → E.sound p l r ≡ true → E.sound p k r ≡ true
  -- it owes no more than a full bucket holds
  pub within : (p : Plan) (at : ℕ) (r : R) → E.sound p at r ≡ true → E.backlog p at r ≤ capacity p
  -- it drains by N a millisecond, and no further than 0
  pub drains :
      (p : Plan) (l k : ℕ) (r : R) → l ≤ k → E.sound p l r ≡ true → E.backlog p k r ≡ E.backlog p l r - ticks_in p (k - l)
  -- free exactly if sound and owing nothing
  pub free_iff : (p : Plan) (at : ℕ) (r : R) → E.free p at r ≡ (E.sound p at r && eqb (E.backlog p at r) 0)
  -- admitted exactly if backlog + P×cost ≤ P×B
  pub admits_iff : (p : Plan) (at : ℕ) (r : R) (cost : ℕ) → E.admits p at r cost ≡ admissible p (E.backlog p at r) cost
  -- spending adds P×cost
  pub spends :
      (p : Plan) (at : ℕ) (r : R) (cost : ℕ) → E.admits p at r cost ≡ true →
      E.backlog p at (E.spend p at r cost) ≡ E.backlog p at r + price p cost
  -- and leaves the record sound
  pub spends_sound :
      (p : Plan) (at : ℕ) (r : R) (cost : ℕ) → E.admits p at r cost ≡ true → E.sound p at (E.spend p at r cost) ≡ true
  -- a fresh record is sound
  pub fresh_sound : (p : Plan) (at : ℕ) → E.sound p at (E.fresh p at) ≡ true
  -- and owes nothing
  pub fresh_owes_nothing : (p : Plan) (at : ℕ) → E.backlog p at (E.fresh p at) ≡ 0
