-- Demand 2, what is left: of the costs from 1 to B exactly those that would be admitted now, at the same moment, on the columns as
-- the call left them.
use Rattle.std.specs.Prelude.{ℕ, ◌≤◌, ◌<◌, ◌≡◌, ◌⊎◌}
use Rattle.rate.specs.Account.{Account}
use Rattle.table.specs.Request.{Query, Request}
use Rattle.table.specs.Rule.{rule_of}
use Rattle.table.specs.Slots.{Columns}
use Rattle.table.specs.Calls.{acquire}

-- a cost, asked for by the same subscriber at the same moment
abbrev pub asking : {P : Type 0} → Query P → ℕ → Request P
asking q cost = record { query = q; cost = cost }

pub record LeftNow {C P R : Type 0} (A : Account P R) (K : Columns C R) (q : Query P) (c : C) (left : ℕ) : Type 0 where
  -- never more than the burst
  pub most : left ≤ (A.plan q.setting).burst
  -- so much is admitted
  pub enough : (cost : ℕ) → 1 ≤ cost → cost ≤ left → (acquire (rule_of A) K (asking q cost) c).answer.number ≡ 0
  -- and no more: it must wait, or its wait runs off the clock
  pub beyond :
      (cost : ℕ) → left < cost → cost ≤ (A.plan q.setting).burst →
      ((acquire (rule_of A) K (asking q cost) c).answer.number ≡ 8) ⊎ ((acquire (rule_of A) K (asking q cost) c).answer.number ≡ 13)
