-- Why a peek gets its number, by any rule: its check applies and none before it; or the own record, or a fresh one, reports it.
use Rattle.std.specs.Prelude.{ℕ, ◌≡◌}
use Rattle.table.specs.Request.{Query}
use Rattle.table.specs.Rule.{Rule}
use Rattle.table.specs.Slots.{Columns}
use Rattle.table.specs.Calls.{gate}
use Rattle.table.specs.Passed.{Stopped, Asked}
use Rattle.table.specs.Places.{Own, Unknown}

module _ {C P R : Type 0} (U : Rule P R) (K : Columns C R) (q : Query P) (c : C) where
  pub data PeekCause : ℕ → Type 0 where
    stopped : {n : ℕ} → Stopped (gate U K q c) n → PeekCause n
    on_own :
        {n : ℕ} → Asked (gate U K q c) → (i : ℕ) → Own K q c i → (U.report q.setting q.moment (K.row c i)).number ≡ n → PeekCause n
    on_fresh :
        {n : ℕ} → Asked (gate U K q c) → Unknown K q c →
        (U.report q.setting q.moment (U.fresh q.setting q.moment)).number ≡ n → PeekCause n
