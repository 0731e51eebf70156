-- Why an acquire gets its number, by any rule: its check applies and none before it; or the record in the own slot, or a fresh one
-- in a free slot, was judged to get it.
use Rattle.std.specs.Prelude.{ℕ, ◌≡◌, true, false, eqb, ltb}
use Rattle.rate.specs.Decision.{Verdict}
use Rattle.table.specs.Request.{Request}
use Rattle.table.specs.Rule.{Rule}
use Rattle.table.specs.Slots.{Columns}
use Rattle.table.specs.Calls.{gate, toll}
use Rattle.table.specs.Passed.{Stopped, Asked, Payable}
use Rattle.table.specs.Places.{Own, Unknown, Vacant, Full}

-- the verdict on a record
abbrev pub verdict_on : {P R : Type 0} → Rule P R → Request P → R → Verdict
verdict_on U r held = (U.judge r.query.setting r.query.moment held r.cost).verdict

module _ {C P R : Type 0} (U : Rule P R) (K : Columns C R) (r : Request P) (c : C) where
  pub data Cause : ℕ → Type 0 where
    stopped : {n : ℕ} → Stopped (gate U K r.query c) n → Cause n
    zero_cost : Asked (gate U K r.query c) → eqb r.cost 0 ≡ true → Cause 5
    cost_above_most :
        Asked (gate U K r.query c) → eqb r.cost 0 ≡ false → ltb (U.most r.query.setting) r.cost ≡ true → Cause 6
    on_own :
        {n : ℕ} → Payable (toll U K r c) → (i : ℕ) → Own K r.query c i → (verdict_on U r (K.row c i)).number ≡ n → Cause n
    on_fresh :
        {n : ℕ} → Payable (toll U K r c) → (i : ℕ) → Unknown K r.query c → Vacant U K r.query c i →
        (verdict_on U r (U.fresh r.query.setting r.query.moment)).number ≡ n → Cause n
    table_full : Payable (toll U K r c) → Unknown K r.query c → Full U K r.query c → Cause 9
