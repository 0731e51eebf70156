-- The steps of a run, for who does not unfold them: the answers come one by one, and what the history does at each call.
-- Assumes nothing.
use mathlib.Core.Path.{◌≡◌, refl}
use mathlib.Core.List.{List, [], ◌∷◌}
use Prim.Native.Nat.{ℕ}
use Rattle.ticks.specs.declared.plan.Plan.{Plan}
use Rattle.rate.specs.Answer.{answered}
use Rattle.rate.specs.Decision.{bare}
use Rattle.plans.specs.Plans.{plans_of}
use Rattle.table.specs.Request.{request_of}
use Rattle.law_history.specs.History as book
use Rattle.law_history.specs.History.{Entry}
use Rattle.law_history.specs.Run.{Call, acquire, peek, clear, Machine, history, step, answers}

module _ {S : Type 0} (M : Machine S) (ps : List Plan) (s : S) where
  pub answers_none : answers M ps s [] ≡ []
  unfolding answers
  answers_none = refl

  pub answers_next :
      (c : Call) (rest : List Call) → answers M ps s (c ∷ rest) ≡ (step M ps s c).answer ∷ answers M ps (step M ps s c).after rest
  unfolding answers
  answers_next c rest = refl

module _ (slots : ℕ) (ps : List Plan) (h : List Entry) where
  pub step_acquire :
      (at who k cost : ℕ) → step (history slots) ps h (acquire at who k cost) ≡ book.acquire slots (request_of (plans_of ps k) at who cost) h
  unfolding step history
  step_acquire at who k cost = refl

  -- a look keeps the history
  pub step_peek : (at who k : ℕ) → (step (history slots) ps h (peek at who k)).after ≡ h
  unfolding step history book.peek
  step_peek at who k = refl

  -- .. and a clear empties it
  pub step_clear : step (history slots) ps h clear ≡ record { answer = answered 0 (bare 0); after = [] }
  unfolding step history book.clear
  step_clear = refl
