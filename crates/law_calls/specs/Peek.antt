-- A peek is an acquire's report without the cost.
use Rattle.std.specs.Prelude.{◌≡◌}
use Rattle.rate.specs.Account.{Account}
use Rattle.table.specs.Request.{Request}
use Rattle.table.specs.Rule.{rule_of}
use Rattle.table.specs.Slots.{Columns}
use Rattle.table.specs.Calls.{acquire, peek}

-- where an acquire must wait, a peek shows the same left and reset
module _ {C P R : Type 0} (A : Account P R) (K : Columns C R) (r : Request P) (c : C) where
  pub record SameReport : Type 0 where
    pub left : (peek (rule_of A) K r.query c).answer.left ≡ (acquire (rule_of A) K r c).answer.left
    pub reset : (peek (rule_of A) K r.query c).answer.reset ≡ (acquire (rule_of A) K r c).answer.reset
