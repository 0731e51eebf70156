-- Document 01, 'When the gate says no', row by row: the ground on which an acquire gets its number, by any account.
use Rattle.std.specs.Prelude.{ℕ, ◌+◌, ◌≡◌, true, false, eqb, ltb}
use Rattle.ticks.specs.Grains.{on_clock}
use Rattle.rate.specs.Account.{Account}
use Rattle.table.specs.Request.{Request}
use Rattle.table.specs.Rule.{rule_of, fault_at, admits_at, wait_at}
use Rattle.table.specs.Slots.{Columns}
use Rattle.table.specs.Calls.{gate, toll}
use Rattle.table.specs.Passed.{Stopped, Asked, Payable}
use Rattle.table.specs.Places.{Own, Unknown, Vacant, Full}

module _ {C P R : Type 0} (A : Account P R) (K : Columns C R) (r : Request P) (c : C) where
  pub data Ground : ℕ → Type 0 where
    stopped : {n : ℕ} → Stopped (gate (rule_of A) K r.query c) n → Ground n
    zero_cost : Asked (gate (rule_of A) K r.query c) → eqb r.cost 0 ≡ true → Ground 5
    cost_above_burst :
        Asked (gate (rule_of A) K r.query c) → eqb r.cost 0 ≡ false → ltb (A.plan r.query.setting).burst r.cost ≡ true → Ground 6
    corrupt_record : Payable (toll (rule_of A) K r c) → (i : ℕ) → Own K r.query c i → fault_at A r (K.row c i) ≡ 7 → Ground 7
    -- document 02, Item 3: just after it, what is still owed under another plan
    other_plan : Payable (toll (rule_of A) K r c) → (i : ℕ) → Own K r.query c i → fault_at A r (K.row c i) ≡ 12 → Ground 12
    throttled :
        Payable (toll (rule_of A) K r c) → (i : ℕ) → Own K r.query c i → fault_at A r (K.row c i) ≡ 0 →
        admits_at A r (K.row c i) ≡ false → on_clock (r.query.moment + wait_at A r (K.row c i)) ≡ true → Ground 8
    -- document 02, Item 13: in its place where the wait runs off the clock
    not_on_clock :
        Payable (toll (rule_of A) K r c) → (i : ℕ) → Own K r.query c i → fault_at A r (K.row c i) ≡ 0 →
        admits_at A r (K.row c i) ≡ false → on_clock (r.query.moment + wait_at A r (K.row c i)) ≡ false → Ground 13
    table_full : Payable (toll (rule_of A) K r c) → Unknown K r.query c → Full (rule_of A) K r.query c → Ground 9
    admitted :
        Payable (toll (rule_of A) K r c) → (i : ℕ) → Own K r.query c i → fault_at A r (K.row c i) ≡ 0 →
        admits_at A r (K.row c i) ≡ true → Ground 0
    admitted_new :
        Payable (toll (rule_of A) K r c) → (i : ℕ) → Unknown K r.query c → Vacant (rule_of A) K r.query c i → Ground 0
