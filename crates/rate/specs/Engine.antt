-- An engine on one record: document 01's formulas for it, under one plan. GCRA and the token bucket are two values of
-- `Engine`; what follows from the formulas alone is said once, over any of them.
use Rattle.std.specs.Prelude.{ℕ, Bool}
use Rattle.ticks.specs.declared.plan.Plan.{Plan}

-- R is what is stored for one subscriber; each formula is of a plan and a moment
pub record Engine (R : Type 0) : Type 0 where
  -- the record of a subscriber without one: the bucket is full
  pub fresh : Plan → ℕ → R
  -- the record is possible (else number 7)
  pub sound : Plan → ℕ → R → Bool
  -- the record owes nothing, so that its place may be taken over
  pub free : Plan → ℕ → R → Bool
  -- what the record owes (document 01's debt, as if nothing is admitted)
  pub backlog : Plan → ℕ → R → ℕ
  -- a cost is admitted
  pub admits : Plan → ℕ → R → ℕ → Bool
  -- the record after a cost was admitted
  pub spend : Plan → ℕ → R → ℕ → R
