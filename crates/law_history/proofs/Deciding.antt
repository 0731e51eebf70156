-- What the history answers in each case: a check that applies; 12, exactly if the caller owes and names another plan; 9; and what it
-- admits and does not.
-- Assumes nothing.
use mathlib.Core.Path.{◌≡◌, refl, ap}
use mathlib.Core.Bool.{Bool, true, false, not, ◌&&◌}
use mathlib.Core.List.{List, [], ◌∷◌, ◌++◌}
use Prim.Native.Nat.{ℕ, ◌≤◌}
use native.Mathlib.Omega.{arith}
use lib.Dec.{eqb, leb}
use lib.ListN.{length}
use borrow.Author.Tests.{eq-eqb, ne_eqb, eqb-false, leb-true, le-leb, lt-leb, not-true}
use Rattle.ticks.proofs.Tests.{both}
use Rattle.rate.specs.Decision.{admissible, bare, reported, admitted, throttled}
use Rattle.rate.proofs.Cases.{guard_0, guard_not_0}
use Rattle.plans.specs.Plans.{Plans, asked}
use Rattle.table.specs.Request.{Query, Request}
use Rattle.table.specs.Checks.{request_check}
use Rattle.law_history.specs.History as book
use Rattle.law_history.specs.History.{Entry, plan_number, owed, names, caller_debt, owes, debtors, owes_elsewhere, entry_of, says, decide, toll_at, shown}
use Rattle.law_history.proofs.Counting.{keeps_none}

module _ (n : ℕ) (r : Request Plans) (h : List Entry) where
  pub book_refused : eqb (request_check (toll_at n r h)) 0 ≡ false → book.acquire n r h ≡ says r (bare (request_check (toll_at n r h))) h
  unfolding book.acquire
  book_refused e = guard_not_0 (λ k. says r (bare k) h) (request_check (toll_at n r h)) (decide n r h) e

  pub book_decides : request_check (toll_at n r h) ≡ 0 → book.acquire n r h ≡ decide n r h
  unfolding book.acquire
  book_decides e = guard_0 (λ k. says r (bare k) h) (request_check (toll_at n r h)) (decide n r h) e

  pub decide_elsewhere : owes_elsewhere r.query h ≡ true → decide n r h ≡ says r (bare 12) h
  unfolding decide
  decide_elsewhere o = rw o

  module _ (o : owes_elsewhere r.query h ≡ false) where
    pub decide_full : debtors r.query h ≡ n → decide n r h ≡ says r (bare 9) h
    unfolding decide
    decide_full e = rw (o, eq-eqb (debtors r.query h) n e)

    pub decide_admitted :
        (debtors r.query h ≡ n → ⊥) → admissible (asked r.query.setting) (caller_debt r.query h) r.cost ≡ true →
        decide n r h
        ≡ says r (admitted (asked r.query.setting) r.query.moment (caller_debt r.query h) r.cost) (h ++ (entry_of r ∷ []))
    unfolding decide
    decide_admitted e a = rw (o, ne_eqb (debtors r.query h) n e, a)

    pub decide_throttled :
        (debtors r.query h ≡ n → ⊥) → admissible (asked r.query.setting) (caller_debt r.query h) r.cost ≡ false →
        decide n r h ≡ says r (throttled (asked r.query.setting) r.query.moment (caller_debt r.query h) r.cost) h
    unfolding decide
    decide_throttled e a = rw (o, ne_eqb (debtors r.query h) n e, a)

-- what a look shows
module _ (q : Query Plans) (h : List Entry) where
  pub shows_12 : owes_elsewhere q h ≡ true → shown q h ≡ bare 12
  unfolding shown
  shows_12 o = rw o

  pub shows_debt : owes_elsewhere q h ≡ false → shown q h ≡ reported (asked q.setting) q.moment (caller_debt q h)
  unfolding shown
  shows_debt o = rw o

-- a debt under another plan than the one that the call names
record Elsewhere (q : Query Plans) (h : List Entry) : Type 0 where
  positive : 1 ≤ caller_debt q h
  other : plan_number q.subscriber h ≡ q.setting.number → ⊥

module _ (q : Query Plans) (h : List Entry) where
  elsewhere : owes_elsewhere q h ≡ true → Elsewhere q h
  unfolding owes_elsewhere
  elsewhere e =
      let two = both _ _ e in
      record { positive = leb-true _ _ two.0; other = eqb-false _ _ (not-true _ two.1) }

  pub is_elsewhere : 1 ≤ caller_debt q h → (plan_number q.subscriber h ≡ q.setting.number → ⊥) → owes_elsewhere q h ≡ true
  unfolding owes_elsewhere
  is_elsewhere d o =
      rw (le-leb 1 (caller_debt q h) d, ne_eqb (plan_number q.subscriber h) q.setting.number o) refl

  not_elsewhere : (Elsewhere q h → ⊥) → owes_elsewhere q h ≡ false
  not_elsewhere n = by (owes_elsewhere q h) refl
    where
      by : (t : Bool) → owes_elsewhere q h ≡ t → owes_elsewhere q h ≡ false
      by true t = absurd (n (elsewhere t))
      by false t = t

  -- under the plan of its run no caller owes elsewhere
  pub same_plan : plan_number q.subscriber h ≡ q.setting.number → owes_elsewhere q h ≡ false
  same_plan e = not_elsewhere (λ x. x.other e)

  -- .. nor does one that owes nothing
  pub owes_nothing : caller_debt q h ≡ 0 → owes_elsewhere q h ≡ false
  owes_nothing e = not_elsewhere (λ x. omega (arith, x.positive, e))

  -- where no other owes, there are no debtors
  pub no_debtors :
      ((x : ℕ) → (x ≡ q.subscriber → ⊥) → owed q.setting.plans q.moment x h ≡ 0) → debtors q h ≡ 0
  unfolding debtors owes
  no_debtors nothing = ap (λ (l : List ℕ). length l) (keeps_none (owes q h) (names h) clean)
    where
      clean : (x : ℕ) → owes q h x ≡ false
      clean x = by (eqb x q.subscriber) refl
        where
          by : (t : Bool) → eqb x q.subscriber ≡ t → (not t && leb 1 (owed q.setting.plans q.moment x h)) ≡ false
          by true t = refl
          by false t = lt-leb 1 (owed q.setting.plans q.moment x h) (omega (arith, nothing x (eqb-false _ _ t)))
