-- What `judge` and `report` owe at each call and each return, by any engine with the backlog law, from what their callees said.
-- Assumes nothing.
use mathlib.Core.Path.{◌≡◌, refl, ap, ap₂, sym, ◌∙◌}
use mathlib.Core.Bool.{Bool, true, false, cond}
use Prim.Native.Nat.{ℕ, ◌≤◌}
use lib.Dec.{eqb}
use borrow.Author.Tests.{leb-true, leb-false, eq-eqb}
use Rattle.std.specs.Prelude.{Option, Some, None}
use Rattle.ticks.specs.declared.plan.Plan.{Plan}
use Rattle.ticks.specs.declared.units.Ticks.{Ticks}
use Rattle.ticks.specs.Grains.{capacity, InForce}
use Rattle.rate.specs.declared.answer.Outcome.{Outcome}
use Rattle.rate.specs.declared.answer.Outcome.TheVariants.{Refused}
use Rattle.rate.specs.declared.answer.Reason.TheVariants.{CorruptRecord}
use Rattle.rate.specs.declared.engine.Judgement.{Judgement}
use Rattle.rate.specs.Answer.{verdict_of}
use Rattle.rate.specs.Decision.{Verdict, bare, admitted, throttled, reported, admissible, Owing, Admitting, Throttling}
use Rattle.rate.specs.Engine.{Engine}
use Rattle.rate.specs.Account.{alone, Judged, judge, report, Settled, kept, spent, settled}
use Rattle.rate.specs.Judgement.{owed_of, put, judgement_of}
use Rattle.rate.specs.Lawful.{Lawful}
use Rattle.rate.proofs.Alone.{judge_corrupt, judge_admitted, judge_throttled, report_corrupt, report_sound}
use Rattle.rate.proofs.Answers.{corrupt, bare_number, admitted_number}
use Rattle.rate.proofs.ClockEnd.{throttled_not_0}
use Rattle.rate.proofs.Cases.{settled_spent, settled_kept}

-- what a record owes, if it is possible
module _ {R : Type 0} (E : Engine R) (p : Plan) (at : ℕ) (r : R) where
  pub owes : {owed : ℕ} → E.sound p at r ≡ true → owed ≡ E.backlog p at r → Some (record { 0 = owed }) ≡ owed_of E p at r
  unfolding owed_of
  owes s e = rw s (ap (λ (b : ℕ). Some (record { 0 = b })) e)

  pub owes_none : E.sound p at r ≡ false → None ≡ owed_of E p at r
  unfolding owed_of
  owes_none s = rw s refl

  data Owed (x : Option Ticks) : Type 0 where
    impossible : E.sound p at r ≡ false → x ≡ None → Owed x
    possible : E.sound p at r ≡ true → x ≡ Some (record { 0 = E.backlog p at r }) → Owed x

  owed_is : Owed (owed_of E p at r)
  unfolding owed_of
  owed_is = by (E.sound p at r) refl
    where
      by : (t : Bool) → E.sound p at r ≡ t → Owed (cond (E.sound p at r) (Some (record { 0 = E.backlog p at r })) None)
      by true s = possible s (rw s refl)
      by false s = impossible s (rw s refl)

  pub unsound : None ≡ owed_of E p at r → E.sound p at r ≡ false
  unsound e = by owed_is
    where
      by : Owed (owed_of E p at r) → E.sound p at r ≡ false
      by (impossible s i) = s
      by (possible s i) = cc

  pub sound : {owed : Ticks} → Some owed ≡ owed_of E p at r → E.sound p at r ≡ true
  sound {owed} e = by owed_is
    where
      by : Owed (owed_of E p at r) → E.sound p at r ≡ true
      by (impossible s i) = cc
      by (possible s i) = s

  pub backlog_is : {owed : Ticks} → Some owed ≡ owed_of E p at r → owed.0 ≡ E.backlog p at r
  backlog_is {owed} e = by owed_is
    where
      by : Owed (owed_of E p at r) → owed.0 ≡ E.backlog p at r
      by (impossible s i) = cc
      by (possible s i) = let same : owed ≡ record { 0 = E.backlog p at r } = cc in ap (λ (t : Ticks). t.0) same

-- a record that is kept, and one that is put in the other's place
pub judgement_keep : {R : Type 0} {j : Judgement R} {outcome : Outcome} → j ≡ record { outcome = outcome; «record» = None } → judgement_of j ≡ kept (verdict_of outcome)
unfolding judgement_of put
judgement_keep e = ap judgement_of e

pub judgement_spend : {R : Type 0} (outcome : Outcome) (r : R) → judgement_of (record { outcome = outcome; «record» = Some r }) ≡ spent (verdict_of outcome) r
unfolding judgement_of put
judgement_spend outcome r = refl

pub judgement_is : {R : Type 0} (j : Judgement R) → judgement_of j ≡ put (verdict_of j.outcome) j.«record»
unfolding judgement_of
judgement_is j = refl

pub put_none : {R : Type 0} (v : Verdict) → put {R = R} v None ≡ kept v
unfolding put
put_none v = refl

pub put_some : {R : Type 0} (v : Verdict) (r : R) → put v (Some r) ≡ spent v r
unfolding put
put_some v r = refl

-- a judgement of which it is known what it is
keeps_as : {R : Type 0} {j : Judged R} (k : Judged R) → j ≡ k → eqb k.verdict.number 0 ≡ false → kept k.verdict ≡ settled j
keeps_as k e n = sym (ap (λ (x : Judged _). settled x) e ∙ settled_kept k n)

spends_as :
    {R : Type 0} {j : Judged R} (k : Judged R) → j ≡ k → k.verdict.number ≡ 0 → spent k.verdict k.after ≡ settled j
spends_as k e n = sym (ap (λ (x : Judged _). settled x) e ∙ settled_spent k (eq-eqb _ _ n))

module _ {R : Type 0} (E : Engine R) (p : Plan) (at : ℕ) (r : R) where
  pub reports_corrupt : None ≡ owed_of E p at r → verdict_of (Refused CorruptRecord) ≡ report (alone E) p at r
  reports_corrupt none = corrupt ∙ sym (report_corrupt E p at r (unsound E p at r none))

  pub judges_corrupt :
      (cost : ℕ) {s : Settled R} → None ≡ owed_of E p at r → s ≡ kept (verdict_of (Refused CorruptRecord)) →
      s ≡ settled (judge (alone E) p at r cost)
  judges_corrupt cost none e =
      e ∙ ap (λ (v : Verdict). kept v) corrupt
      ∙ keeps_as (record { verdict = bare 7; after = r }) (judge_corrupt E p at r cost (unsound E p at r none))
      (ap (λ (n : ℕ). eqb n 0) (bare_number 7))

  module _ (L : Lawful E) {owed : Ticks} (some : Some owed ≡ owed_of E p at r) where
    pub reports_sound : {v : Verdict} → v ≡ reported p at owed.0 → v ≡ report (alone E) p at r
    reports_sound e =
        e ∙ ap (λ (b : ℕ). reported p at b) (backlog_is E p at r some) ∙ sym (report_sound E p at r (sound E p at r some))

    owes_within : owed.0 ≤ capacity p
    owes_within = let e = backlog_is E p at r some in rw e (L.within p at r (sound E p at r some))

    pub report_takes : InForce p at → Owing p at owed.0
    report_takes force = record { force = force; within = owes_within }

    module _ (cost : ℕ) {fits : Bool} (tests : fits ≡ admissible p owed.0 cost) where
      test : {t : Bool} → fits ≡ t → E.admits p at r cost ≡ t
      test e =
          L.admits_iff p at r cost ∙ sym (ap (λ (b : ℕ). admissible p b cost) (backlog_is E p at r some)) ∙ sym tests ∙ e

      pub judges_admitted :
          {s : Settled R} {v : Verdict} {x : R} → fits ≡ true → v ≡ admitted p at owed.0 cost → x ≡ E.spend p at r cost →
          s ≡ spent v x → s ≡ settled (judge (alone E) p at r cost)
      judges_admitted fit e spends is =
          is ∙ ap₂ (λ (v : Verdict) (s : R). spent v s) (e ∙ ap (λ (b : ℕ). admitted p at b cost) (backlog_is E p at r some)) spends
          ∙ spends_as _ (judge_admitted E p at r cost (sound E p at r some) (test fit)) (admitted_number p at _ cost)

      pub judges_throttled :
          {s : Settled R} {v : Verdict} → fits ≡ false → v ≡ throttled p at owed.0 cost → s ≡ kept v →
          s ≡ settled (judge (alone E) p at r cost)
      judges_throttled unfit e is =
          is ∙ ap (λ (v : Verdict). kept v) (e ∙ ap (λ (b : ℕ). throttled p at b cost) (backlog_is E p at r some))
          ∙ keeps_as _ (judge_throttled E p at r cost (sound E p at r some) (test unfit)) (throttled_not_0 p at _ cost)

      pub throttle_takes : InForce p at → fits ≡ false → Throttling p at owed.0 cost
      unfolding admissible
      throttle_takes force unfit =
          record { force = force; within = owes_within; beyond = leb-false _ _ (sym tests ∙ unfit) }

pub admit_takes :
    {p : Plan} {at owed cost : ℕ} {fits : Bool} → InForce p at → fits ≡ admissible p owed cost → fits ≡ true →
    Admitting p at owed cost
unfolding admissible
admit_takes force tests fit = record { force = force; within = leb-true _ _ (sym tests ∙ fit) }
