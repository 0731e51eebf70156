-- What an ask does to the history: it is refused and changes nothing; or it is answered 0 and added at the end, at a moment that is not
-- before the newest, under the plan that the subscriber owes by or once it owes nothing, and what it then owes fits a full bucket.
-- Assumes nothing.
use mathlib.Core.Path.{◌≡◌, refl, sym, ap, ◌∙◌}
use mathlib.Core.Bool.{Bool, true, false, false≢true}
use mathlib.Core.List.{List, [], ◌∷◌, ◌++◌}
use Prim.Native.Nat.{ℕ, zero, suc, ◌+◌, ◌≤◌}
use native.Mathlib.Omega.{arith}
use lib.Dec.{eqb}
use borrow.Author.Tests.{ne_eqb, eqb-true, eqb-false, leb-true}
use Rattle.ticks.specs.Grains.{price, capacity}
use Rattle.rate.specs.Decision.{Verdict, admissible, bare}
use Rattle.rate.proofs.Answers.{answered_number, bare_number, admitted_number}
use Rattle.rate.proofs.ClockEnd.{throttled_not_0}
use Rattle.rate.proofs.Left.{fits_test}
use Rattle.plans.specs.Plans.{Plans, asked}
use Rattle.table.specs.Request.{Request}
use Rattle.table.specs.Checks.{request_check}
use Rattle.table.specs.Calls.{Step}
use Rattle.table.proofs.Checks.{payable, asked_since}
use Rattle.law_history.specs.History as book
use Rattle.law_history.specs.History.{Entry, newest, plan_number, caller_debt, debtors, owes_elsewhere, entry_of, says, toll_at}
use Rattle.law_history.proofs.Deciding.{book_refused, book_decides, decide_elsewhere, decide_full, decide_admitted, decide_throttled, is_elsewhere}

pub record Admitted (r : Request Plans) (h : List Entry) : Type 0 where
  pub since : newest h ≤ r.query.moment
  pub drained : (plan_number r.query.subscriber h ≡ r.query.setting.number → ⊥) → caller_debt r.query h ≡ 0
  pub fits : caller_debt r.query h + price (asked r.query.setting) r.cost ≤ capacity (asked r.query.setting)

pub data Outcome (r : Request Plans) (h : List Entry) (s : Step (List Entry)) : Type 0 where
  kept : eqb s.answer.number 0 ≡ false → s.after ≡ h → Outcome r h s
  added : s.answer.number ≡ 0 → s.after ≡ h ++ (entry_of r ∷ []) → Admitted r h → Outcome r h s

module _ (n : ℕ) (r : Request Plans) (h : List Entry) where
  refused : (v : Verdict) → book.acquire n r h ≡ says r v h → eqb v.number 0 ≡ false → Outcome r h (book.acquire n r h)
  refused v e some =
      kept
      (ap (λ (s : Step (List Entry)). eqb s.answer.number 0) e ∙ ap (λ (k : ℕ). eqb k 0) (answered_number r.query.subscriber v) ∙ some)
      (ap (λ (s : Step (List Entry)). s.after) e)

  bare_refused : (k : ℕ) → book.acquire n r h ≡ says r (bare k) h → eqb k 0 ≡ false → Outcome r h (book.acquire n r h)
  bare_refused k e some = refused (bare k) e (ap (λ (x : ℕ). eqb x 0) (bare_number k) ∙ some)

  nothing_elsewhere :
      owes_elsewhere r.query h ≡ false → (plan_number r.query.subscriber h ≡ r.query.setting.number → ⊥) → caller_debt r.query h ≡ 0
  nothing_elsewhere here other = by (caller_debt r.query h) refl
    where
      by : (d : ℕ) → caller_debt r.query h ≡ d → caller_debt r.query h ≡ 0
      by zero e = e
      by (suc d) e = absurd (false≢true (sym here ∙ is_elsewhere r.query h (omega (arith, e)) other))

  pub outcome : Outcome r h (book.acquire n r h)
  outcome = checked (request_check (toll_at n r h)) refl
    where
      admits : Bool
      admits = admissible (asked r.query.setting) (caller_debt r.query h) r.cost

      fits :
          admits ≡ true → caller_debt r.query h + price (asked r.query.setting) r.cost ≤ capacity (asked r.query.setting)
      fits e = leb-true _ _ (fits_test (asked r.query.setting) (caller_debt r.query h) r.cost _ _ (λ z. z) (λ z. z) ∙ e)

      by :
          request_check (toll_at n r h) ≡ 0 → (there : Bool) → owes_elsewhere r.query h ≡ there → (full : Bool) →
          eqb (debtors r.query h) n ≡ full → (a : Bool) → admits ≡ a → Outcome r h (book.acquire n r h)
      by e true et full ef a ea = bare_refused 12 (book_decides n r h e ∙ decide_elsewhere n r h et) refl
      by e false et true ef a ea = bare_refused 9 (book_decides n r h e ∙ decide_full n r h et (eqb-true _ _ ef)) refl
      by e false et false ef false ea =
          refused _ (book_decides n r h e ∙ decide_throttled n r h et (eqb-false _ _ ef) ea) (throttled_not_0 _ _ _ _)
      by e false et false ef true ea =
          let done = book_decides n r h e ∙ decide_admitted n r h et (eqb-false _ _ ef) ea in
          added
          (ap (λ (s : Step (List Entry)). s.answer.number) done ∙ answered_number r.query.subscriber _ ∙ admitted_number _ _ _ _)
          (ap (λ (s : Step (List Entry)). s.after) done)
          (record {
            since = asked_since (toll_at n r h).gate (payable (toll_at n r h) e).asked;
            drained = nothing_elsewhere et;
            fits = fits ea;
          })

      checked : (m : ℕ) → request_check (toll_at n r h) ≡ m → Outcome r h (book.acquire n r h)
      checked zero e =
          by e (owes_elsewhere r.query h) refl (eqb (debtors r.query h) n) refl admits refl
      checked (suc m) e =
          let some = ne_eqb (request_check (toll_at n r h)) 0 (λ z. omega arith) in
          bare_refused (request_check (toll_at n r h)) (book_refused n r h some) some
