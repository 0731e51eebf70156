-- The first check that applies answers: a law for each number, and what it means that all have passed.
-- Assumes nothing.
use mathlib.Core.Path.{◌≡◌, refl, sym, ◌∙◌}
use mathlib.Core.Logic.{◌⊎◌, inl, inr}
use mathlib.Core.Bool.{Bool, true, false, false≢true, and-true, and-false}
use Prim.Native.Nat.{ℕ, zero, suc, ◌≤◌}
use native.Mathlib.Omega.{arith}
use lib.Dec.{eqb, leb, ltb}
use borrow.Author.Tests.{le-leb, lt-leb, leb-true, ltb-false, eq-eqb, ne_eqb}
use Rattle.ticks.specs.Grains.{on_clock}
use Rattle.ticks.proofs.Tests.{both}
use Rattle.rate.proofs.Cases.{guard_0, guard_not_0}
use Rattle.table.specs.Passed.{Stopped, bad_plan, bad_table, late_moment, early_moment, no_subscriber, Asked, Payable}
use Rattle.table.specs.Checks.{most_slots, slots_ok, Gate, Toll, query_check, cost_check, request_check}

module _ (g : Gate) where
  pub number_1 : g.ok ≡ false → query_check g ≡ 1
  unfolding query_check
  number_1 plan = rw plan

  pub number_2 : g.ok ≡ true → slots_ok g.slots ≡ false → query_check g ≡ 2
  unfolding query_check
  number_2 plan table = rw (plan, table)

  pub number_3 : g.ok ≡ true → slots_ok g.slots ≡ true → on_clock g.moment ≡ false → query_check g ≡ 3
  unfolding query_check
  number_3 plan table moment = rw (plan, table, moment)

  pub number_11 :
      g.ok ≡ true → slots_ok g.slots ≡ true → on_clock g.moment ≡ true → ltb g.moment g.newest ≡ true →
      query_check g ≡ 11
  unfolding query_check
  number_11 plan table moment newest = rw (plan, table, moment, newest)

  pub number_4 :
      g.ok ≡ true → slots_ok g.slots ≡ true → on_clock g.moment ≡ true → ltb g.moment g.newest ≡ false →
      eqb g.subscriber 0 ≡ true → query_check g ≡ 4
  unfolding query_check
  number_4 plan table moment newest subscriber = rw (plan, table, moment, newest, subscriber)

  pub stops : {n : ℕ} → Stopped g n → query_check g ≡ n
  stops (bad_plan a) = number_1 a
  stops (bad_table a b) = number_2 a b
  stops (late_moment a b m) = number_3 a b m
  stops (early_moment a b m e) = number_11 a b m e
  stops (no_subscriber a b m e s) = number_4 a b m e s

  pub stops_not_0 : {n : ℕ} → Stopped g n → eqb n 0 ≡ false
  stops_not_0 (bad_plan a) = refl
  stops_not_0 (bad_table a b) = refl
  stops_not_0 (late_moment a b m) = refl
  stops_not_0 (early_moment a b m e) = refl
  stops_not_0 (no_subscriber a b m e s) = refl

module _ (g : Gate) where
  pub asks : Asked g → query_check g ≡ 0
  unfolding query_check
  asks a = rw (a.plan, a.table, a.moment, a.newest, a.subscriber)

  pub asked_or_stopped : Asked g ⊎ ((n : ℕ) × Stopped g n)
  asked_or_stopped =
      by g.ok refl (slots_ok g.slots) refl (on_clock g.moment) refl (ltb g.moment g.newest) refl (eqb g.subscriber 0) refl
    where
      by :
          (p : Bool) → g.ok ≡ p → (t : Bool) → slots_ok g.slots ≡ t → (m : Bool) → on_clock g.moment ≡ m →
          (w : Bool) → ltb g.moment g.newest ≡ w → (s : Bool) → eqb g.subscriber 0 ≡ s → Asked g ⊎ ((n : ℕ) × Stopped g n)
      by true ep true et true em false ew false es = inl (record { plan = ep; table = et; moment = em; newest = ew; subscriber = es })
      by false ep t et m em w ew s es = inr (1, bad_plan ep)
      by true ep false et m em w ew s es = inr (2, bad_table ep et)
      by true ep true et false em w ew s es = inr (3, late_moment ep et em)
      by true ep true et true em true ew s es = inr (11, early_moment ep et em ew)
      by true ep true et true em false ew true es = inr (4, no_subscriber ep et em ew es)

  pub asked : query_check g ≡ 0 → Asked g
  asked e = by asked_or_stopped
    where
      by : Asked g ⊎ ((n : ℕ) × Stopped g n) → Asked g
      by (inl a) = a
      by (inr s) = absurd (false≢true (sym (stops_not_0 g s.1) ∙ eq-eqb _ _ (sym (stops g s.1) ∙ e)))

-- a moment that has passed is not before the newest
pub asked_since : (g : Gate) → Asked g → g.newest ≤ g.moment
asked_since g a = ltb-false _ _ a.newest

-- how many slots a table that has passed has
pub slots_least : (slots : ℕ) → slots_ok slots ≡ true → 1 ≤ slots
unfolding slots_ok
slots_least slots e = leb-true _ _ (both _ _ e).0

-- up to the most, a number of slots is within its limits exactly if it is not 0
pub slots_some : (slots : ℕ) → slots ≤ most_slots → slots_ok slots ≡ leb 1 slots
unfolding slots_ok
slots_some slots h = rw (le-leb slots most_slots h) (and-true (leb 1 slots))

pub slots_none : slots_ok 0 ≡ false
unfolding slots_ok
slots_none = refl

-- document 02, Item 8: 1 to 65,535 slots are a table
pub slots_within : (slots : ℕ) → 1 ≤ slots → slots ≤ 65535 → slots_ok slots ≡ true
slots_within slots some most = slots_some slots (omega arith) ∙ le-leb 1 slots some

-- .. and 65,536 or more are none
pub slots_beyond : (slots : ℕ) → 65536 ≤ slots → slots_ok slots ≡ false
unfolding slots_ok
slots_beyond slots h = rw (lt-leb slots most_slots (omega arith)) (and-false (leb 1 slots))

module _ (t : Toll) where
  -- the checks before the cost's answer an ask as they answer a look
  pub query_first : eqb (query_check t.gate) 0 ≡ false → request_check t ≡ query_check t.gate
  unfolding request_check
  query_first h = guard_not_0 (λ n. n) (query_check t.gate) (cost_check t) h

  cost_next : query_check t.gate ≡ 0 → request_check t ≡ cost_check t
  unfolding request_check
  cost_next e = guard_0 (λ n. n) (query_check t.gate) (cost_check t) e

  pub number_5 : query_check t.gate ≡ 0 → eqb t.cost 0 ≡ true → request_check t ≡ 5
  unfolding cost_check
  number_5 e cost = cost_next e ∙ rw cost

  pub number_6 :
      query_check t.gate ≡ 0 → eqb t.cost 0 ≡ false → ltb t.most t.cost ≡ true →
      request_check t ≡ 6
  unfolding cost_check
  number_6 e cost burst = cost_next e ∙ rw (cost, burst)

  pub passes :
      query_check t.gate ≡ 0 → eqb t.cost 0 ≡ false → ltb t.most t.cost ≡ false →
      request_check t ≡ 0
  unfolding cost_check
  passes e cost burst = cost_next e ∙ rw (cost, burst)

  pub pays : Payable t → request_check t ≡ 0
  pays p = passes (asks t.gate p.asked) p.cost p.burst

  pub payable : request_check t ≡ 0 → Payable t
  payable e = by (query_check t.gate) refl
    where
      costs :
          query_check t.gate ≡ 0 → (z : Bool) → eqb t.cost 0 ≡ z → (b : Bool) →
          ltb t.most t.cost ≡ b → Payable t
      costs q false ez false eb = record { asked = asked t.gate q; cost = ez; burst = eb }
      costs q true ez b eb = absurd (omega (arith, number_5 q ez))
      costs q false ez true eb = absurd (omega (arith, number_6 q ez eb))

      by : (n : ℕ) → query_check t.gate ≡ n → Payable t
      by zero q = costs q (eqb t.cost 0) refl (ltb t.most t.cost) refl
      by (suc n) q = absurd (omega (arith, query_first (ne_eqb (query_check t.gate) 0 (λ z. omega arith))))
