-- An engine under one plan: what it answers in each case, and that an engine with the backlog law keeps a balanced account.
-- Assumes nothing.
use mathlib.Core.Path.{◌≡◌, refl, ap, ◌∙◌}
use mathlib.Core.Bool.{Bool, true, false, ◌&&◌}
use lib.Dec.{eqb}
use native.Mathlib.Omega.{arith}
use Prim.Native.Nat.{ℕ}
use Rattle.ticks.specs.declared.plan.Plan.{Plan}
use Rattle.rate.specs.Decision.{bare, admitted, throttled, reported}
use Rattle.rate.specs.Engine.{Engine}
use Rattle.rate.specs.Account.{soundness, alone, judge, report}
use Rattle.rate.specs.Balanced.{Fault, fine, corrupt, Balanced}
use Rattle.rate.specs.Lawful.{Lawful}
use Rattle.rate.proofs.Cases as cases

-- a record is at fault exactly if it is not sound
sound_0 : (t : Bool) → soundness t ≡ 0 → t ≡ true
unfolding soundness
sound_0 true e = refl
sound_0 false e = absurd (omega arith)

pub sound_true : {t : Bool} → t ≡ true → soundness t ≡ 0
unfolding soundness
sound_true e = rw e refl

sound_false : {t : Bool} → t ≡ false → soundness t ≡ 7
unfolding soundness
sound_false e = rw e refl

sound_fault : (t : Bool) → Fault (soundness t)
unfolding soundness
sound_fault true = fine refl
sound_fault false = corrupt refl

sound_test : (t : Bool) → t ≡ eqb (soundness t) 0
unfolding soundness
sound_test true = refl
sound_test false = refl

module _ {R : Type 0} (E : Engine R) (p : Plan) (at : ℕ) (r : R) where
  pub judge_corrupt : (cost : ℕ) → E.sound p at r ≡ false → judge (alone E) p at r cost ≡ record { verdict = bare 7; after = r }
  judge_corrupt cost s =
      let number = sound_false s in
      cases.judge_faulty (alone E) p at r cost (ap (λ (n : ℕ). eqb n 0) number)
      ∙ ap (λ (n : ℕ). record { verdict = bare n; after = r }) number

  pub judge_admitted :
      (cost : ℕ) → E.sound p at r ≡ true → E.admits p at r cost ≡ true →
      judge (alone E) p at r cost ≡ record { verdict = admitted p at (E.backlog p at r) cost; after = E.spend p at r cost }
  judge_admitted cost s a = cases.judge_admitted (alone E) p at r cost (sound_true s) a

  pub judge_throttled :
      (cost : ℕ) → E.sound p at r ≡ true → E.admits p at r cost ≡ false →
      judge (alone E) p at r cost ≡ record { verdict = throttled p at (E.backlog p at r) cost; after = r }
  judge_throttled cost s a = cases.judge_throttled (alone E) p at r cost (sound_true s) a

  pub report_corrupt : E.sound p at r ≡ false → report (alone E) p at r ≡ bare 7
  report_corrupt s =
      let number = sound_false s in
      cases.report_faulty (alone E) p at r (ap (λ (n : ℕ). eqb n 0) number) ∙ ap (λ (n : ℕ). bare n) number

  pub report_sound : E.sound p at r ≡ true → report (alone E) p at r ≡ reported p at (E.backlog p at r)
  report_sound s = cases.report_sound (alone E) p at r (sound_true s)

pub alone_balanced : {R : Type 0} {E : Engine R} → Lawful E → Balanced (alone E)
alone_balanced {E = E} L =
    record {
      ok_plan = λ p o. o;
      faults = λ p at r. sound_fault (E.sound p at r);
      stays_sound = λ p l k r h e. sound_true (L.stays_sound p l k r h (sound_0 _ e));
      within = λ p at r e. L.within p at r (sound_0 _ e);
      drains = λ p l k r h e. L.drains p l k r h (sound_0 _ e);
      free_iff = λ p at r. L.free_iff p at r ∙ ap (λ (t : Bool). t && eqb (E.backlog p at r) 0) (sound_test (E.sound p at r));
      admits_iff = L.admits_iff;
      spends = L.spends;
      spends_sound = λ p at r cost o a. sound_true (L.spends_sound p at r cost a);
      fresh_sound = λ p at o. sound_true (L.fresh_sound p at);
      fresh_owes_nothing = L.fresh_owes_nothing;
    }
