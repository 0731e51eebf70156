-- Document 01, 'When the gate says no', checks 1 to 6, and document 02, Item 6, number 11 just after 3: the number of the first
-- check that applies, or 0.
use Rattle.std.specs.Prelude.{ℕ, Bool, cond, not, ◌&&◌, eqb, leb, ltb, Result, Ok, Err}
use Rattle.ticks.specs.Grains.{on_clock}
use Rattle.rate.specs.declared.answer.Reason.{Reason}
use Rattle.rate.specs.Answer.{reason_number}
use Rattle.rate.specs.Account.{guard}

-- the table of limits: the most slots (document 01's seats); the least is 1
abbrev pub most_slots : ℕ
most_slots = 65535

-- the number of slots is within its limits; it counts as 0 where the columns are unequal (check 2)
unfoldable pub slots_ok : ℕ → Bool
slots_ok slots = leb 1 slots && leb slots most_slots

-- what the checks before the cost's look at: whether the setting is within its limits, and four numbers
pub record Gate : Type 0 where
  pub ok : Bool
  pub slots : ℕ
  pub newest : ℕ
  pub moment : ℕ
  pub subscriber : ℕ

abbrev pub gate_of : Bool → ℕ → ℕ → ℕ → ℕ → Gate
gate_of ok slots newest moment subscriber =
    record { ok = ok; slots = slots; newest = newest; moment = moment; subscriber = subscriber }

-- what all of them look at: that, the most that a cost may be, and the cost
pub record Toll : Type 0 where
  pub gate : Gate
  pub most : ℕ
  pub cost : ℕ

abbrev pub toll_of : Gate → ℕ → ℕ → Toll
toll_of gate most cost = record { gate = gate; most = most; cost = cost }

-- checks 1, 2, 3, 11 and 4, all that a look knows before its own record
unfoldable pub query_check : Gate → ℕ
query_check g =
    cond (not g.ok) 1
    (cond (not (slots_ok g.slots)) 2
    (cond (not (on_clock g.moment)) 3
    (cond (ltb g.moment g.newest) 11
    (cond (eqb g.subscriber 0) 4 0))))

-- checks 5 and 6
unfoldable pub cost_check : Toll → ℕ
cost_check t = cond (eqb t.cost 0) 5 (cond (ltb t.most t.cost) 6 0)

-- all checks, in their order
unfoldable pub request_check : Toll → ℕ
request_check t = guard (λ n. n) (query_check t.gate) (cost_check t)

-- the number of what the checks answer
unfoldable pub check_number : Result (Unit {0}) Reason → ℕ
check_number (Ok tt) = 0
check_number (Err reason) = reason_number reason
