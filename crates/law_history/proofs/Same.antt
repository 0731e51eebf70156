-- What it means that a table and a history take the same step; and that their checks look at the same.
-- Assumes nothing.
use mathlib.Core.Path.{◌≡◌, sym, ap, ap₂, subst, ◌∙◌}
use mathlib.Core.List.{List}
use Prim.Native.Nat.{ℕ}
use Rattle.ticks.specs.declared.plan.Plan.{Plan}
use Rattle.rate.specs.declared.answer.Numbers.{Numbers}
use Rattle.rate.specs.Engine.{Engine}
use Rattle.plans.specs.declared.planned.Planned.{Planned}
use Rattle.plans.specs.Plans.{Plans, plans_ok, asked, planned}
use Rattle.table.specs.Request.{Query, Request}
use Rattle.table.specs.Checks.{Gate, gate_of, toll_of}
use Rattle.table.specs.Rule.{rule_of}
use Rattle.table.specs.Slots.{Columns}
use Rattle.table.specs.Calls.{Step, gate, toll}
use Rattle.law_history.specs.History.{Entry, newest, gate_at, toll_at}
use Rattle.law_history.proofs.Invariant.{Related}

module _ {C R : Type 0} (E : Engine R) (K : Columns C (Planned R)) (n : ℕ) where
  -- the same answer, and states that are still related
  pub record Same (ps : List Plan) (s : Step C) (t : Step (List Entry)) : Type 0 where
    pub answer : s.answer ≡ t.answer
    pub after : Related E K ps n (newest t.after) s.after t.after

  -- what two steps are, and that it is the same
  pub same :
      {ps : List Plan} {s : Step C} {t : Step (List Entry)} (a : Numbers) (b : Numbers) (c : C) (h : List Entry) →
      s ≡ record { answer = a; after = c } → t ≡ record { answer = b; after = h } → a ≡ b → Related E K ps n (newest h) c h → Same ps s t
  same {ps = ps} {t = t} a b c h es et e v =
      record {
        answer = ap (λ (x : Step C). x.answer) es ∙ e ∙ sym (ap (λ (x : Step (List Entry)). x.answer) et);
        after =
            subst (λ (x : C). Related E K ps n (newest t.after) x t.after) (sym (ap (λ (x : Step C). x.after) es))
            (subst (λ (x : List Entry). Related E K ps n (newest x) c x) (sym (ap (λ (x : Step (List Entry)). x.after) et)) v);
      }

  -- the checks of both look at the same
  pub same_gate :
      (q : Query Plans) (c : C) (h : List Entry) {l : ℕ} → Related E K q.setting.plans n l c h →
      gate (rule_of (planned E)) K q c ≡ gate_at n q h
  same_gate q c h v =
      ap₂ (λ (slots newest : ℕ). gate_of (plans_ok q.setting) slots newest q.moment q.subscriber) v.slots v.latest

  pub same_toll :
      (r : Request Plans) (c : C) (h : List Entry) {l : ℕ} → Related E K r.query.setting.plans n l c h →
      toll (rule_of (planned E)) K r c ≡ toll_at n r h
  same_toll r c h v = ap (λ (g : Gate). toll_of g (asked r.query.setting).burst r.cost) (same_gate r.query c h v)
