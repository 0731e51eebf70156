-- Over any run the history stays covered and its moments do not fall; and what a host notes of the history's answers is the history.
-- Assumes nothing.
use mathlib.Core.Path.{◌≡◌, refl, sym, subst, ◌∙◌}
use mathlib.Core.Bool.{Bool, true, false, cond}
use mathlib.Core.List.{List, [], ◌∷◌, ◌++◌}
use Prim.Native.Nat.{ℕ, ◌≤◌}
use native.Mathlib.Decide.{ℕ_discrete}
use native.Mathlib.Omega.{arith}
use lib.Dec.{eqb}
use borrow.Author.Tests.{eq-eqb}
use Rattle.ticks.specs.declared.plan.Plan.{Plan}
use Rattle.rate.specs.Decision.{bare}
use Rattle.rate.proofs.Answers.{answered_number, bare_number}
use Rattle.plans.specs.Plans.{Plans, plans_of}
use Rattle.table.specs.Request.{Request, request_of}
use Rattle.table.specs.Calls.{Step}
use Rattle.law_history.specs.History as book
use Rattle.law_history.specs.History.{Entry, calls_of, newest, entry_of}
use Rattle.law_history.specs.Run.{Call, acquire, peek, clear, history, step, answers}
use Rattle.law_history.proofs.Latest.{calls_none, calls_own, calls_other}
use Rattle.law_history.proofs.Owing.{newest_end}
use Rattle.law_history.proofs.Steps.{answers_next, step_acquire, step_peek, step_clear}
use Rattle.law_ceiling.specs.Counted.{final, note, noted}
use Rattle.law_ceiling.proofs.Rising.{Rising, rising_to, rising_end}
use Rattle.law_ceiling.proofs.Asking.{Outcome, kept, added, outcome}
use Rattle.law_ceiling.proofs.Covered.{Covered, covered_none, covered_more}

-- what stays so of a history
pub record Kept (ps : List Plan) (h : List Entry) : Type 0 where
  pub covered : Covered ps h
  pub rising : (who : ℕ) → Rising 0 (calls_of who h) (newest h)

pub kept_none : (ps : List Plan) → Kept ps []
kept_none ps =
    record {
      covered = covered_none ps;
      rising = λ who. subst (λ (l : List Entry). Rising 0 l (newest [])) (sym (calls_none who)) (omega arith);
    }

module _ (ps : List Plan) (h : List Entry) (e : Entry) (r : (who : ℕ) → Rising 0 (calls_of who h) (newest h)) (late : newest h ≤ e.moment) where
  rising_more : (who : ℕ) → Rising 0 (calls_of who (h ++ (e ∷ []))) (newest (h ++ (e ∷ [])))
  rising_more who = rw (newest_end h e late) (by (ℕ_discrete e.subscriber who))
    where
      by : Dec (e.subscriber ≡ who) → Rising 0 (calls_of who (h ++ (e ∷ []))) e.moment
      by (yes k) =
          subst (λ (x : ℕ). Rising 0 (calls_of x (h ++ (e ∷ []))) e.moment) k
          (subst (λ (l : List Entry). Rising 0 l e.moment) (sym (calls_own h e))
          (rising_end 0 (calls_of e.subscriber h) (newest h) e (r e.subscriber) late))
      by (no k) =
          subst (λ (l : List Entry). Rising 0 l e.moment) (sym (calls_other h e who k))
          (rising_to 0 (calls_of who h) (newest h) e.moment (r who) late)

-- what holds of the next history, and what a host notes of the answer
record Next (ps : List Plan) (h : List Entry) (c : Call) (s : Step (List Entry)) : Type 0 where
  keeps : Kept ps h → Kept ps s.after
  notes : cond (eqb s.answer.number 0) (note h c) h ≡ s.after

module _ (ps : List Plan) (n : ℕ) (h : List Entry) where
  next_acquire : (at who k cost : ℕ) → Next ps h (acquire at who k cost) (book.acquire n (request_of (plans_of ps k) at who cost) h)
  unfolding note
  next_acquire at who k cost = by (outcome n r h)
    where
      r : Request Plans
      r = request_of (plans_of ps k) at who cost

      by : Outcome r h (book.acquire n r h) → Next ps h (acquire at who k cost) (book.acquire n r h)
      by (kept some same) =
          record { keeps = λ v. subst (λ (l : List Entry). Kept ps l) (sym same) v; notes = rw some (sym same) }
      by (added none more a) =
          record {
            keeps = λ v.
                subst (λ (l : List Entry). Kept ps l) (sym more)
                (record {
                  covered = covered_more ps h (entry_of r) v.covered a.since a.drained a.fits;
                  rising = rising_more ps h (entry_of r) v.rising a.since;
                });
            notes = rw (eq-eqb _ 0 none) (sym more);
          }

  next : (c : Call) → Next ps h c (step (history n) ps h c)
  unfolding note
  next (acquire at who k cost) = rw (step_acquire n ps h at who k cost) (next_acquire at who k cost)
  next (peek at who k) =
      record {
        keeps = λ v. subst (λ (l : List Entry). Kept ps l) (sym (step_peek n ps h at who k)) v;
        notes = either (eqb (step (history n) ps h (peek at who k)).answer.number 0) ∙ sym (step_peek n ps h at who k);
      }
    where
      either : (t : Bool) → cond t h h ≡ h
      either true = refl
      either false = refl
  next clear =
      rw (step_clear n ps h)
      (record { keeps = λ v. kept_none ps; notes = rw (eq-eqb _ 0 (answered_number 0 (bare 0) ∙ bare_number 0)) })

-- over any run
module _ (ps : List Plan) (n : ℕ) where
  pub kept_run : (run : List Call) (h : List Entry) → Kept ps h → Kept ps (final (history n) ps h run)
  unfolding final
  kept_run [] h v = v
  kept_run (c ∷ rest) h v = kept_run rest _ ((next ps n h c).keeps v)

  pub noted_run : (run : List Call) (h : List Entry) → noted h run (answers (history n) ps h run) ≡ final (history n) ps h run
  unfolding final noted
  noted_run [] h = refl
  noted_run (c ∷ rest) h = rw (answers_next (history n) ps h c rest, (next ps n h c).notes) (noted_run rest _)
