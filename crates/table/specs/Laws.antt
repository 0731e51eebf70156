-- The laws of the table: what its checks, its searches and its calls come to, for any rule and any columns; proofs/Laws shows
-- them. What a host may rely on in any call follows from these, and stands in specs/Laws of `law_calls`.
use Rattle.std.specs.Prelude.{ℕ, ◌≤◌, ◌≡◌, Bool, true, false, eqb, ltb, Some, None}
use Rattle.ticks.specs.Grains.{on_clock}
use Rattle.rate.specs.Answer.{answered}
use Rattle.rate.specs.Decision.{bare}
use Rattle.table.specs.Request.{Request}
use Rattle.table.specs.Checks.{slots_ok, Gate, Toll, query_check, request_check}
use Rattle.table.specs.Rule.{Rule}
use Rattle.table.specs.Slots.{Columns, common, seek, NoneBelow}
use Rattle.table.specs.Calls.{acquire, clear, toll}
use Rattle.table.specs.Passed.{Payable}
use Rattle.table.specs.Places.{Lowest, Own, Unknown, Vacant, Full}

-- the table of limits (document 02, Item 8): 1 to 65,535 slots, and columns of equal length
pub record SlotLimits : Type 0 where
  pub slots_none : slots_ok 0 ≡ false
  pub slots_within : (slots : ℕ) → 1 ≤ slots → slots ≤ 65535 → slots_ok slots ≡ true
  pub slots_beyond : (slots : ℕ) → 65536 ≤ slots → slots_ok slots ≡ false
  pub common_same : (a b : ℕ) → a ≡ b → common a b ≡ a
  pub common_unequal : (a b : ℕ) → (a ≡ b → ⊥) → common a b ≡ 0

-- document 01, 'When the gate says no': each check's number, given where it applies and none before it does
pub record QueryNumbers (g : Gate) : Type 0 where
  pub number_1 : g.ok ≡ false → query_check g ≡ 1
  pub number_2 : g.ok ≡ true → slots_ok g.slots ≡ false → query_check g ≡ 2
  pub number_3 : g.ok ≡ true → slots_ok g.slots ≡ true → on_clock g.moment ≡ false → query_check g ≡ 3
  pub number_11 :
      g.ok ≡ true → slots_ok g.slots ≡ true → on_clock g.moment ≡ true → ltb g.moment g.newest ≡ true → query_check g ≡ 11
  pub number_4 :
      g.ok ≡ true → slots_ok g.slots ≡ true → on_clock g.moment ≡ true → ltb g.moment g.newest ≡ false →
      eqb g.subscriber 0 ≡ true → query_check g ≡ 4

pub record RequestNumbers (t : Toll) : Type 0 where
  pub query_first : eqb (query_check t.gate) 0 ≡ false → request_check t ≡ query_check t.gate
  pub number_5 : query_check t.gate ≡ 0 → eqb t.cost 0 ≡ true → request_check t ≡ 5
  pub number_6 : query_check t.gate ≡ 0 → eqb t.cost 0 ≡ false → ltb t.most t.cost ≡ true → request_check t ≡ 6
  pub pays : Payable t → request_check t ≡ 0

-- a search finds the lowest place that passes a test, or none does
pub record SearchLaws (test : ℕ → Bool) (n : ℕ) : Type 0 where
  pub seek_at : (i : ℕ) → Lowest test n i → seek test n ≡ Some i
  pub seek_nowhere : NoneBelow test n → seek test n ≡ None

-- what an acquire answers in each case, and what it leaves where it is not judged
pub record AcquireCases {C P R : Type 0} (U : Rule P R) (K : Columns C R) (r : Request P) (c : C) : Type 0 where
  -- numbers 1 to 6 and 11
  pub refused :
      eqb (request_check (toll U K r c)) 0 ≡ false →
      acquire U K r c ≡ record { answer = answered r.query.subscriber (bare (request_check (toll U K r c))); after = c }
  -- number 9
  pub full :
      Payable (toll U K r c) → Unknown K r.query c → Full U K r.query c →
      acquire U K r c ≡ record { answer = answered r.query.subscriber (bare 9); after = c }
  -- the verdict on the own record
  pub own_answer :
      (i : ℕ) → Payable (toll U K r c) → Own K r.query c i →
      (acquire U K r c).answer ≡ answered r.query.subscriber (U.judge r.query.setting r.query.moment (K.row c i) r.cost).verdict
  -- .. and without one on a fresh one
  pub new_answer :
      (i : ℕ) → Payable (toll U K r c) → Unknown K r.query c → Vacant U K r.query c i →
      (acquire U K r c).answer
      ≡ answered r.query.subscriber (U.judge r.query.setting r.query.moment (U.fresh r.query.setting r.query.moment) r.cost).verdict

-- what a clear answers and leaves
pub record ClearCases {C R : Type 0} (K : Columns C R) (c : C) : Type 0 where
  pub clear_done : slots_ok (K.slots c) ≡ true → clear K c ≡ record { answer = answered 0 (bare 0); after = K.zeros c }
  pub clear_unfit : slots_ok (K.slots c) ≡ false → clear K c ≡ record { answer = answered 0 (bare 2); after = c }
