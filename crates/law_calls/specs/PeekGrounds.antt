-- The ground on which a peek gets its number, by any account.
use Rattle.std.specs.Prelude.{ℕ, ◌≡◌}
use Rattle.rate.specs.Account.{Account}
use Rattle.table.specs.Request.{Query}
use Rattle.table.specs.Rule.{rule_of}
use Rattle.table.specs.Slots.{Columns}
use Rattle.table.specs.Calls.{gate}
use Rattle.table.specs.Passed.{Stopped, Asked}
use Rattle.table.specs.Places.{Own, Unknown}

module _ {C P R : Type 0} (A : Account P R) (K : Columns C R) (q : Query P) (c : C) where
  pub data PeekGround : ℕ → Type 0 where
    stopped : {n : ℕ} → Stopped (gate (rule_of A) K q c) n → PeekGround n
    corrupt_record :
        Asked (gate (rule_of A) K q c) → (i : ℕ) → Own K q c i → A.fault q.setting q.moment (K.row c i) ≡ 7 → PeekGround 7
    other_plan :
        Asked (gate (rule_of A) K q c) → (i : ℕ) → Own K q c i → A.fault q.setting q.moment (K.row c i) ≡ 12 → PeekGround 12
    known :
        Asked (gate (rule_of A) K q c) → (i : ℕ) → Own K q c i → A.fault q.setting q.moment (K.row c i) ≡ 0 → PeekGround 0
    unknown : Asked (gate (rule_of A) K q c) → Unknown K q c → PeekGround 0
