-- No check and no decision of the history is 7, and over a run from a clear each engine answers as the history does, whatever plans
-- are lent.
-- Assumes nothing.
use mathlib.Core.Path.{◌≡◌, refl, sym, ap, subst, ◌∙◌}
use mathlib.Core.Logic.{◌⊎◌, inl, inr}
use mathlib.Core.Bool.{Bool, true, false}
use mathlib.Core.List.{List, [], ◌∷◌}
use Prim.Native.Nat.{ℕ, zero, suc}
use native.Mathlib.Omega.{arith}
use lib.Dec.{eqb, ltb}
use borrow.Author.Tests.{ne_eqb, eqb-true, eqb-false}
use Rattle.ticks.specs.declared.plan.Plan.{Plan}
use Rattle.rate.specs.declared.answer.Numbers.{Numbers}
use Rattle.rate.specs.Answer.{answered}
use Rattle.rate.specs.Decision.{Verdict, admissible, bare}
use Rattle.rate.specs.Engine.{Engine}
use Rattle.rate.specs.Account.{guard}
use Rattle.rate.specs.Lawful.{Lawful}
use Rattle.rate.proofs.Answers.{answered_number, bare_number, reported_number, admitted_number}
use Rattle.rate.proofs.ClockEnd.{by_clock_end}
use Rattle.rate.proofs.Cases.{guard_0, guard_not_0}
use Rattle.plans.specs.declared.planned.Planned.{Planned}
use Rattle.plans.specs.Plans.{Plans, plans_of, asked, planned}
use Rattle.rule_gcra.proofs.Laws.{gcra_lawful}
use Rattle.rule_token_bucket.proofs.Laws.{token_bucket_lawful}
use Rattle.table.specs.Request.{Query, Request, query_of, request_of}
use Rattle.table.specs.Checks.{Gate, Toll, query_check, request_check}
use Rattle.table.specs.Rule.{rule_of}
use Rattle.table.specs.Slots.{Columns}
use Rattle.table.specs.Calls.{Step}
use Rattle.table.specs.Passed.{Asked, Stopped}
use Rattle.table.specs.Stored.{Stored}
use Rattle.table.proofs.Checks.{stops, asks, asked_or_stopped, query_first, number_5, number_6, passes}
use Rattle.table_gcra.specs.Table as gcra_table
use Rattle.table_gcra.proofs.Columns.{gcra_stored}
use Rattle.table_token_bucket.specs.Table as token_bucket_table
use Rattle.table_token_bucket.proofs.Columns.{token_bucket_stored}
use Rattle.law_history.specs.History as book
use Rattle.law_history.specs.History.{Entry, caller_debt, debtors, owes_elsewhere, says, gate_at, toll_at, shown}
use Rattle.law_history.specs.NeverCorrupt.{Never, NeverFrom, NeverCorrupt}
use Rattle.law_history.specs.Run.{Call, acquire, peek, clear, history, step, answers}
use Rattle.law_history.proofs.Deciding.{book_refused, book_decides, decide_elsewhere, decide_full, decide_admitted, decide_throttled, shows_12, shows_debt}
use Rattle.law_history.proofs.Demand3.{engine_is_history}

-- the checks before the cost's
query_not_7 : (g : Gate) → query_check g ≡ 7 → ⊥
query_not_7 g e = by (asked_or_stopped g)
  where
    seven : Stopped g 7 → ⊥
    seven = elim [ ]

    by : Asked g ⊎ ((n : ℕ) × Stopped g n) → ⊥
    by (inl a) = omega (arith, asks g a, e)
    by (inr s) = seven (subst (λ (n : ℕ). Stopped g n) (sym (stops g s.1) ∙ e) s.1)

-- .. and all of them
request_not_7 : (t : Toll) → request_check t ≡ 7 → ⊥
request_not_7 t e = by (query_check t.gate) refl (eqb t.cost 0) refl (ltb t.most t.cost) refl
  where
    by :
        (k : ℕ) → query_check t.gate ≡ k → (z : Bool) → eqb t.cost 0 ≡ z → (b : Bool) → ltb t.most t.cost ≡ b → ⊥
    by zero q true ez b eb = omega (arith, number_5 t q ez, e)
    by zero q false ez true eb = omega (arith, number_6 t q ez eb, e)
    by zero q false ez false eb = omega (arith, passes t q ez eb, e)
    by (suc k) q z ez b eb =
        query_not_7 t.gate (sym (query_first t (ne_eqb (query_check t.gate) 0 (λ n. omega arith))) ∙ e)

-- an answer whose number is another
answered_not_7 : (who : ℕ) (v : Verdict) (n : ℕ) → v.number ≡ n → (n ≡ 7 → ⊥) → (answered who v).number ≡ 7 → ⊥
answered_not_7 who v n e other h = other (sym e ∙ sym (answered_number who v) ∙ h)

module _ (slots : ℕ) where
  acquire_not_7 : (r : Request Plans) (h : List Entry) → (book.acquire slots r h).answer.number ≡ 7 → ⊥
  acquire_not_7 r h =
      by (request_check (toll_at slots r h)) refl (owes_elsewhere r.query h) refl (eqb (debtors r.query h) slots) refl
      (admissible (asked r.query.setting) (caller_debt r.query h) r.cost) refl
    where
      said :
          (v : Verdict) (after : List Entry) (n : ℕ) → book.acquire slots r h ≡ says r v after → v.number ≡ n → (n ≡ 7 → ⊥) →
          (book.acquire slots r h).answer.number ≡ 7 → ⊥
      said v after n e number other x =
          answered_not_7 r.query.subscriber v n number other (sym (ap (λ (s : Step (List Entry)). s.answer.number) e) ∙ x)

      by :
          (k : ℕ) → request_check (toll_at slots r h) ≡ k → (there : Bool) → owes_elsewhere r.query h ≡ there → (full : Bool) →
          eqb (debtors r.query h) slots ≡ full → (fits : Bool) →
          admissible (asked r.query.setting) (caller_debt r.query h) r.cost ≡ fits →
          (book.acquire slots r h).answer.number ≡ 7 → ⊥
      by (suc k) e there et full ef fits ea =
          said _ _ _ (book_refused slots r h (ne_eqb (request_check (toll_at slots r h)) 0 (λ z. omega arith)))
          (bare_number (request_check (toll_at slots r h))) (request_not_7 (toll_at slots r h))
      by zero e true et full ef fits ea =
          said _ _ 12 (book_decides slots r h e ∙ decide_elsewhere slots r h et) (bare_number 12) (λ z. omega arith)
      by zero e false et true ef fits ea =
          said _ _ 9 (book_decides slots r h e ∙ decide_full slots r h et (eqb-true _ _ ef)) (bare_number 9) (λ z. omega arith)
      by zero e false et false ef true ea =
          said _ _ 0 (book_decides slots r h e ∙ decide_admitted slots r h et (eqb-false _ _ ef) ea) (admitted_number _ _ _ _) (λ z. omega arith)
      by zero e false et false ef false ea =
          said _ _ _ (book_decides slots r h e ∙ decide_throttled slots r h et (eqb-false _ _ ef) ea) refl
          (by_clock_end (asked r.query.setting) r.query.moment (caller_debt r.query h) r.cost (λ (v : Verdict). v.number ≡ 7 → ⊥)
          (λ z. omega arith) (λ z. omega (arith, bare_number 13)))

  peek_not_7 : (q : Query Plans) (h : List Entry) → (book.peek slots q h).answer.number ≡ 7 → ⊥
  unfolding book.peek
  peek_not_7 q h = by (query_check (gate_at slots q h)) refl (owes_elsewhere q h) refl
    where
      said :
          (v : Verdict) (n : ℕ) → guard bare (query_check (gate_at slots q h)) (shown q h) ≡ v → v.number ≡ n → (n ≡ 7 → ⊥) →
          (answered q.subscriber (guard bare (query_check (gate_at slots q h)) (shown q h))).number ≡ 7 → ⊥
      said v n e number = answered_not_7 q.subscriber _ n (ap (λ (x : Verdict). x.number) e ∙ number)

      by :
          (k : ℕ) → query_check (gate_at slots q h) ≡ k → (there : Bool) → owes_elsewhere q h ≡ there →
          (answered q.subscriber (guard bare (query_check (gate_at slots q h)) (shown q h))).number ≡ 7 → ⊥
      by zero e true et =
          said _ 12 (guard_0 bare (query_check (gate_at slots q h)) (shown q h) e ∙ shows_12 q h et) (bare_number 12) (λ z. omega arith)
      by zero e false et =
          said _ 0 (guard_0 bare (query_check (gate_at slots q h)) (shown q h) e ∙ shows_debt q h et) (reported_number _ _ _) (λ z. omega arith)
      by (suc k) e there et =
          said _ _ (guard_not_0 bare (query_check (gate_at slots q h)) (shown q h) (ne_eqb (query_check (gate_at slots q h)) 0 (λ z. omega arith)))
          (bare_number (query_check (gate_at slots q h))) (query_not_7 (gate_at slots q h))

  clear_not_7 : (h : List Entry) → (book.clear h).answer.number ≡ 7 → ⊥
  unfolding book.clear
  clear_not_7 h = answered_not_7 0 (bare 0) 0 (bare_number 0) (λ z. omega arith)

  -- so none of the history's, at any place of a run
  history_never_7 : (ps : List Plan) (run : List Call) (h : List Entry) → Never 7 (answers (history slots) ps h run)
  unfolding answers step history
  history_never_7 ps [] h = tt
  history_never_7 ps (acquire at who k cost ∷ rest) h = (acquire_not_7 (request_of (plans_of ps k) at who cost) h, history_never_7 ps rest _)
  history_never_7 ps (peek at who k ∷ rest) h = (peek_not_7 (query_of (plans_of ps k) at who) h, history_never_7 ps rest _)
  history_never_7 ps (clear ∷ rest) h = (clear_not_7 h, history_never_7 ps rest _)

-- nor of any lawful engine's, over columns that a clear has left
engine_never_7 :
    {C R : Type 0} {E : Engine R} → Lawful E → (K : Columns C (Planned R)) → Stored K → (ps : List Plan) (c : C) (run : List Call) →
    NeverFrom (rule_of (planned E)) K ps c run
engine_never_7 L K S ps c run e =
    subst (λ (l : List Numbers). Never 7 l) (sym (engine_is_history L K S ps (K.slots c) c refl e run))
    (history_never_7 (K.slots c) ps run [])

pub never_corrupt : NeverCorrupt
never_corrupt =
    record {
      of_gcra = engine_never_7 gcra_lawful gcra_table.columns gcra_stored;
      of_token_bucket = engine_never_7 token_bucket_lawful token_bucket_table.columns token_bucket_stored;
    }
