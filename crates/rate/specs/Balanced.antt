-- The backlog law, of an account: what its formulas come to, whatever it stores and however its plan is lent. The table
-- and the laws of the wait use an account through this record alone.
use Rattle.std.specs.Prelude.{◌≡◌, true, ◌&&◌, ℕ, ◌+◌, ◌-◌, ◌≤◌, eqb}
use Rattle.ticks.specs.Grains.{ticks_in, price, capacity, plan_ok}
use Rattle.rate.specs.Decision.{admissible}
use Rattle.rate.specs.Account.{Account}

-- the faults of a record
pub data Fault (n : ℕ) : Type 0 where
  fine : n ≡ 0 → Fault n
  corrupt : n ≡ 7 → Fault n
  -- document 02, Item 3: just after 7
  elsewhere : n ≡ 12 → Fault n

pub record Balanced {P R : Type 0} (A : Account P R) : Type 0 where
  -- a setting within its limits asks for a plan within its limits
  pub ok_plan : (p : P) → A.ok p ≡ true → plan_ok (A.plan p) ≡ true
  -- a record is refused with 7 or 12
  pub faults : (p : P) (at : ℕ) (r : R) → Fault (A.fault p at r)
  -- a sound record stays sound
  pub stays_sound : (p : P) (l k : ℕ) (r : R) → l ≤ k → A.fault p l r ≡ 0 → A.fault p k r ≡ 0
  -- it owes no more than a full bucket holds
  pub within : (p : P) (at : ℕ) (r : R) → A.fault p at r ≡ 0 → A.backlog p at r ≤ capacity (A.plan p)
  -- it drains by N a millisecond, and no further than 0
  pub drains :
      (p : P) (l k : ℕ) (r : R) → l ≤ k → A.fault p l r ≡ 0 → A.backlog p k r ≡ A.backlog p l r - ticks_in (A.plan p) (k - l)
  -- free exactly if sound and owing nothing
  pub free_iff : (p : P) (at : ℕ) (r : R) → A.free p at r ≡ (eqb (A.fault p at r) 0 && eqb (A.backlog p at r) 0)
  -- admitted exactly if backlog + P×cost ≤ P×B
  pub admits_iff : (p : P) (at : ℕ) (r : R) (cost : ℕ) → A.admits p at r cost ≡ admissible (A.plan p) (A.backlog p at r) cost
  -- spending adds P×cost
  pub spends :
      (p : P) (at : ℕ) (r : R) (cost : ℕ) → A.admits p at r cost ≡ true →
      A.backlog p at (A.spend p at r cost) ≡ A.backlog p at r + price (A.plan p) cost
  -- and leaves the record sound
  pub spends_sound :
      (p : P) (at : ℕ) (r : R) (cost : ℕ) → A.ok p ≡ true → A.admits p at r cost ≡ true → A.fault p at (A.spend p at r cost) ≡ 0
  -- a fresh record is sound
  pub fresh_sound : (p : P) (at : ℕ) → A.ok p ≡ true → A.fault p at (A.fresh p at) ≡ 0
  -- and owes nothing
  pub fresh_owes_nothing : (p : P) (at : ℕ) → A.backlog p at (A.fresh p at) ≡ 0
