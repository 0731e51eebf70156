-- A table and a history that are related answer every call alike and stay related, so over any run they give the same answers. It is
-- shown once, of every engine with the backlog law under any list of plans, and of all columns, from any related state.
-- Assumes nothing.
use mathlib.Core.Path.{◌≡◌, refl, sym, ap₂, subst}
use mathlib.Core.Bool.{true}
use mathlib.Core.List.{List, [], ◌∷◌}
use Prim.Native.Nat.{ℕ}
use Rattle.ticks.specs.declared.plan.Plan.{Plan}
use Rattle.rate.specs.declared.answer.Numbers.{Numbers}
use Rattle.rate.specs.Engine.{Engine}
use Rattle.rate.specs.Lawful.{Lawful}
use Rattle.plans.specs.declared.planned.Planned.{Planned}
use Rattle.plans.specs.Plans.{plans_of, planned}
use Rattle.table.specs.Request.{query_of, request_of}
use Rattle.table.specs.Checks.{slots_ok}
use Rattle.table.specs.Rule.{rule_of}
use Rattle.table.specs.Slots.{Columns}
use Rattle.table.specs.Calls as calls
use Rattle.table.specs.Stored.{Stored}
use Rattle.table.proofs.Cases.{clear_done}
use Rattle.law_history.specs.History as book
use Rattle.law_history.specs.History.{Entry, newest}
use Rattle.law_history.specs.Run.{Call, acquire, peek, clear, engine, history, step, answers}
use Rattle.law_history.proofs.Asking.{acquire_step}
use Rattle.law_history.proofs.Invariant.{Related, cleared}
use Rattle.law_history.proofs.Looking.{peek_step}
use Rattle.law_history.proofs.Same.{Same, same}

module _ {C R : Type 0} {E : Engine R} (L : Lawful E) (K : Columns C (Planned R)) (S : Stored K) (n : ℕ) where
  pub clear_step : (ps : List Plan) (c : C) (h : List Entry) → Related E K ps n (newest h) c h → Same E K n ps (calls.clear K c) (book.clear h)
  unfolding book.clear
  clear_step ps c h v =
      same E K n _ _ _ _ (clear_done K c (subst (λ (k : ℕ). slots_ok k ≡ true) (sym v.slots) v.table)) refl refl
      (cleared L K S ps n (newest []) c v.slots v.table)

  -- over any run
  pub simulation :
      (ps : List Plan) (run : List Call) (c : C) (h : List Entry) → Related E K ps n (newest h) c h →
      answers (engine (rule_of (planned E)) K) ps c run ≡ answers (history n) ps h run
  unfolding answers step engine history
  simulation ps [] c h v = refl
  simulation ps (acquire at who k cost ∷ rest) c h v =
      let s = acquire_step L K S n (request_of (plans_of ps k) at who cost) c h v in
      ap₂ (λ (x : Numbers) (xs : List Numbers). x ∷ xs) s.answer (simulation ps rest _ _ s.after)
  simulation ps (peek at who k ∷ rest) c h v =
      let s = peek_step L K S n (query_of (plans_of ps k) at who) c h v in
      ap₂ (λ (x : Numbers) (xs : List Numbers). x ∷ xs) s.answer (simulation ps rest _ _ s.after)
  simulation ps (clear ∷ rest) c h v =
      let s = clear_step ps c h v in
      ap₂ (λ (x : Numbers) (xs : List Numbers). x ∷ xs) s.answer (simulation ps rest _ _ s.after)
