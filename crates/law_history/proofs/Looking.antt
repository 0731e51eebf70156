-- A look at a table and at a history that are related: both show the same.
-- Assumes nothing.
use mathlib.Core.Path.{◌≡◌, refl, sym, ap, subst, ◌∙◌}
use mathlib.Core.Bool.{false}
use mathlib.Core.List.{List}
use Prim.Native.Nat.{ℕ, zero, suc}
use native.Mathlib.Omega.{arith}
use lib.Dec.{eqb}
use borrow.Author.Tests.{ne_eqb}
use Rattle.ticks.proofs.Limits.{within_limits}
use Rattle.rate.specs.declared.answer.Numbers.{Numbers}
use Rattle.rate.specs.Answer.{answered}
use Rattle.rate.specs.Decision.{Verdict, bare, reported}
use Rattle.rate.specs.Engine.{Engine}
use Rattle.rate.specs.Account.{guard}
use Rattle.rate.specs.Lawful.{Lawful}
use Rattle.rate.proofs.Cases.{report_sound, report_faulty, guard_0, guard_not_0}
use Rattle.rate.proofs.Fresh.{nothing_owed}
use Rattle.plans.specs.declared.planned.Planned.{Planned}
use Rattle.plans.specs.Plans.{Plans, asked, planned}
use Rattle.plans.proofs.Accounts.{planned_balanced}
use Rattle.table.specs.Request.{Query}
use Rattle.table.specs.Checks.{Gate, query_check}
use Rattle.table.specs.Rule.{Rule, rule_of}
use Rattle.table.specs.Slots.{Columns}
use Rattle.table.specs.Calls as calls
use Rattle.table.specs.Calls.{slot_for}
use Rattle.table.specs.Passed.{Asked}
use Rattle.table.specs.Places.{Unknown}
use Rattle.table.specs.Stored.{Stored}
use Rattle.table.proofs.Cases.{peek_answers, peek_keeps, peek_refused}
use Rattle.table.proofs.Checks as checks
use Rattle.table.proofs.Checks.{asked_since}
use Rattle.table.proofs.Placing.{Placed, in_own, in_free, nowhere, placed}
use Rattle.law_calls.proofs.Peek.{peek_own, peek_unknown}
use Rattle.law_history.specs.History as book
use Rattle.law_history.specs.History.{Entry, newest, gate_at, shown}
use Rattle.law_history.proofs.Deciding.{shows_12, shows_debt, owes_nothing}
use Rattle.law_history.proofs.Full.{not_empty_somebody}
use Rattle.law_history.proofs.Invariant.{Related, later}
use Rattle.law_history.proofs.OwnRecord.{Verdicts, both_judge, both_12, own_verdicts, unknown_owes_nothing}
use Rattle.law_history.proofs.Same.{Same, same_gate}

module _ {C R : Type 0} {E : Engine R} (L : Lawful E) (K : Columns C (Planned R)) (S : Stored K) (n : ℕ) where
  abbrev U : Rule Plans (Planned R)
  U = rule_of (planned E)

  -- what a look shows
  module _
      (q : Query Plans) (c : C) (h : List Entry) (v : Related E K q.setting.plans n q.moment c h)
      (a : Asked (calls.gate (rule_of (planned E)) K q c)) where
    abbrev shows : Verdict → Numbers
    shows x = answered q.subscriber x

    stranger : Unknown K q c → (calls.peek U K q c).answer ≡ answered q.subscriber (shown q h)
    stranger u =
        let none = unknown_owes_nothing L K S n q c h v u in
        peek_unknown (planned_balanced L) K q c a u
        ∙ ap shows
        (sym (nothing_owed (asked q.setting) q.moment (within_limits (asked q.setting) ((planned_balanced L).ok_plan q.setting a.plan)).period_least)
        ∙ ap (λ (b : ℕ). reported (asked q.setting) q.moment b) (sym none) ∙ sym (shows_debt q h (owes_nothing q h none)))

    reports : (i : ℕ) → Verdicts E q (K.row c i) h → U.report q.setting q.moment (K.row c i) ≡ shown q h
    reports i (both_judge fine here agrees drained) =
        report_sound (planned E) q.setting q.moment (K.row c i) fine
        ∙ ap (λ (b : ℕ). reported (asked q.setting) q.moment b) agrees ∙ sym (shows_debt q h here)
    reports i (both_12 e there) =
        report_faulty (planned E) q.setting q.moment (K.row c i) (ap (λ (k : ℕ). eqb k 0) e) ∙ ap (λ (k : ℕ). bare k) e
        ∙ sym (shows_12 q h there)

    look :
        Placed (rule_of (planned E)) K q c (slot_for (rule_of (planned E)) K q c) →
        (calls.peek U K q c).answer ≡ answered q.subscriber (shown q h)
    look (in_own i o e) =
        let real = not_empty_somebody q.subscriber a.subscriber in
        peek_own U K q c i a o ∙ ap shows (reports i (own_verdicts L K S n q c h v real o))
    look (in_free i u f e) = stranger u
    look (nowhere u f e) = stranger u

  pub peek_step :
      (q : Query Plans) (c : C) (h : List Entry) → Related E K q.setting.plans n (newest h) c h →
      Same E K n q.setting.plans (calls.peek (rule_of (planned E)) K q c) (book.peek n q h)
  unfolding book.peek
  peek_step q c h v =
      record {
        answer = checked (query_check (calls.gate U K q c)) refl;
        after = subst (λ (x : C). Related E K q.setting.plans n (newest h) x h) (sym (peek_keeps U K c q)) v;
      }
    where
      gate : calls.gate U K q c ≡ gate_at n q h
      gate = same_gate E K n q c h v

      checked :
          (k : ℕ) → query_check (calls.gate U K q c) ≡ k →
          (calls.peek U K q c).answer ≡ answered q.subscriber (guard bare (query_check (gate_at n q h)) (shown q h))
      checked zero e =
          let a = checks.asked (calls.gate U K q c) e in
          let late = asked_since (calls.gate U K q c) a in
          look q c h (later L K S q.setting.plans n (newest h) q.moment c h (omega (arith, late, v.latest)) v) a (placed U K q c)
          ∙ sym (ap (λ (x : Verdict). answered q.subscriber x)
          (guard_0 bare (query_check (gate_at n q h)) (shown q h) (subst (λ (x : Gate). query_check x ≡ 0) gate e)))
      checked (suc k) e =
          let some = ne_eqb (query_check (calls.gate U K q c)) 0 (λ z. omega arith) in
          peek_answers U K c q
          ∙ ap (λ (x : Verdict). answered q.subscriber x)
          (peek_refused U K c q some ∙ ap (λ (x : Gate). bare (query_check x)) gate
          ∙ sym (guard_not_0 bare (query_check (gate_at n q h)) (shown q h) (subst (λ (x : Gate). eqb (query_check x) 0 ≡ false) gate some)))
