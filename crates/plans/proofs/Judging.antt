-- What an engine's functions under the plans lent owe at each return, from what their callees said: how a record stands, an ask and
-- a look. It is the same for every engine with the backlog law, so the generic function's proof only cites it.
-- Assumes nothing.
use mathlib.Core.Path.{◌≡◌, refl, sym, ap, ◌∙◌}
use Rattle.std.specs.Prelude.{Option, Some, None, Result, Ok, Err, ok_or, MatchOption, IsSomeAnd}
use Rattle.std.specs.Result.{result_ok}
use mathlib.Core.Bool.{Bool, true, false, not}
use Prim.Native.Nat.{ℕ}
use borrow.Author.Tests.{not-true, not-false, eq-eqb, ne_eqb}
use Rattle.ticks.specs.declared.plan.Plan.{Plan}
use Rattle.ticks.specs.declared.units.Ticks.{Ticks}
use Rattle.rate.specs.declared.answer.Outcome.TheVariants.{Refused}
use Rattle.rate.specs.declared.answer.Reason.{Reason}
use Rattle.rate.specs.declared.answer.Reason.TheVariants.{CorruptRecord, OtherPlan}
use Rattle.rate.specs.Answer.{reason_number, verdict_of}
use Rattle.rate.specs.Decision.{Verdict}
use Rattle.rate.specs.Engine.{Engine}
use Rattle.rate.specs.Account.{alone, judge, report, Settled, kept, spent, settled}
use Rattle.rate.specs.declared.engine.Judgement.{Judgement}
use Rattle.rate.specs.Judgement.{owed_of, put, judgement_of}
use Rattle.rate.specs.Lawful.{Lawful}
use Rattle.rate.proofs.Answers as answers
use Rattle.rate.proofs.Judging.{unsound, sound, backlog_is, judgement_is, put_none, put_some}
use Rattle.plans.specs.Plans.{Plans, Planned, planned_of, known, asked, its, possible, planned, plans_ok}
use Rattle.plans.specs.Standing.{refused, judged, standing, standing_of, report_on, settled_on, under}
use Rattle.plans.proofs.Accounts.{is_possible}
use Rattle.plans.proofs.Standing.{stands_unknown, stands_unsound, stands_owing, stands_drained, settled_standing, report_standing, under_kept, under_spent}

-- how a record of another plan stands
module _ {R : Type 0} (E : Engine R) (p : Plans) (at : ℕ) (r : Planned R) (other : r.number ≡ p.number → ⊥) {lent : Bool} (says : lent ≡ known p.plans r.number) where
  pub finds_unknown : not lent ≡ true → refused (reason_number CorruptRecord) ≡ standing E p at r
  finds_unknown n = ap (λ (n : ℕ). refused n) answers.corrupt_record ∙ stands_unknown E p at r (ne_eqb _ _ other) (sym says ∙ not-true _ n)

  module _ (is_lent : not lent ≡ false) {own : Plan} (is : own ≡ its E p at r) where
    owed_own : {x : Option Ticks} → x ≡ owed_of E own at r.held → x ≡ owed_of E (its E p at r) at r.held
    owed_own e = e ∙ ap (λ (q : Plan). owed_of E q at r.held) is

    pub finds_unsound : None ≡ owed_of E own at r.held → refused (reason_number CorruptRecord) ≡ standing E p at r
    finds_unsound none =
        ap (λ (n : ℕ). refused n) answers.corrupt_record
        ∙ stands_unsound E p at r (ne_eqb _ _ other) (sym says ∙ not-false _ is_lent) (unsound E (its E p at r) at r.held (owed_own none))

    module _ {owed : Ticks} (some : Some owed ≡ owed_of E own at r.held) where
      is_sound : possible E p at r ≡ true
      is_sound = is_possible E p r at (sym says ∙ not-false _ is_lent) (sound E (its E p at r) at r.held (owed_own some))

      owes_own : owed.0 ≡ E.backlog (its E p at r) at r.held
      owes_own = backlog_is E (its E p at r) at r.held (owed_own some)

      pub finds_drained : owed.0 ≡ 0 → {x : R} → x ≡ E.fresh (asked p) at → judged x ≡ standing E p at r
      finds_drained z e =
          ap (λ (x : R). judged x) e ∙ stands_drained E p at r (ne_eqb _ _ other) is_sound (eq-eqb _ _ (sym owes_own ∙ z))

      pub finds_owing : (owed.0 ≡ 0 → ⊥) → refused (reason_number OtherPlan) ≡ standing E p at r
      finds_owing z =
          ap (λ (n : ℕ). refused n) answers.other_plan
          ∙ stands_owing E p at r (ne_eqb _ _ other) is_sound (ne_eqb _ _ (λ e. z (owes_own ∙ e)))

-- an option that was a result for a while
pub some_was : {T E : Type 0} {x : Option T} {r : Result T E} {v : T} → x ≡ result_ok r → r ≡ Ok v → Some v ≡ x
some_was e was = sym (e ∙ ap result_ok was)

pub none_was :
    {T : Type 0} {x : Option T} {r : Result T Reason} {e reason : Reason} → r ≡ ok_or x reason → r ≡ Err e → (None ≡ x) × (e ≡ reason)
none_was {x = None} is was = (refl, cc)
none_was {x = Some v} is was = cc

-- what is put in a record's place is of the plan asked for
put_map :
    {R : Type 0} (number : ℕ) (v : Verdict) (r : Option R) (m : Option (Planned R)) →
    MatchOption r (m ≡ None) (λ x. IsSomeAnd m (λ y. y ≡ planned_of number x)) → put v m ≡ under number (put v r)
put_map number v None m e = ap (put v) e ∙ put_none v ∙ sym (ap (under number) (put_none v) ∙ under_kept number v)
put_map number v (Some x) (Some y) e =
    put_some v y ∙ ap (λ (z : Planned _). spent v z) e ∙ sym (ap (under number) (put_some v x) ∙ under_spent number v x)
put_map number v (Some x) None e = elim e [ ]

pub under_map :
    {R : Type 0} (number : ℕ) (j : Judgement R) (m : Option (Planned R)) →
    MatchOption j.«record» (m ≡ None) (λ x. IsSomeAnd m (λ y. y ≡ planned_of number x)) →
    judgement_of (record { outcome = j.outcome; «record» = m }) ≡ under number (judgement_of j)
under_map number j m e =
    judgement_is (record { outcome = j.outcome; «record» = m })
    ∙ put_map number (verdict_of j.outcome) j.«record» m e ∙ sym (ap (under number) (judgement_is j))

-- what the code answers of that
pub standing_ok : {R : Type 0} (x : R) → standing_of (Ok x) ≡ judged x
unfolding standing_of
standing_ok x = refl

pub standing_err : {R : Type 0} (reason : Reason) → standing_of {R = R} (Err reason) ≡ refused (reason_number reason)
unfolding standing_of
standing_err reason = refl

-- an ask and a look
module _ {R : Type 0} {E : Engine R} (L : Lawful E) (p : Plans) (at : ℕ) (r : Planned R) (o : plans_ok p ≡ true) where
  pub keeps_refused :
      (reason : Reason) (cost : ℕ) → refused (reason_number reason) ≡ standing E p at r →
      kept (verdict_of (Refused reason)) ≡ settled (judge (planned E) p at r cost)
  unfolding settled_on
  keeps_refused reason cost e =
      ap (λ (v : Verdict). kept v) (answers.refused reason) ∙ ap (settled_on E p at cost) e ∙ sym (settled_standing L p at r o cost)

  pub reports_refused :
      (reason : Reason) → refused (reason_number reason) ≡ standing E p at r → verdict_of (Refused reason) ≡ report (planned E) p at r
  unfolding report_on
  reports_refused reason e = answers.refused reason ∙ ap (report_on E p at) e ∙ sym (report_standing L p at r o)

  module _ {x : R} {plan : Plan} (is : plan ≡ asked p) (e : judged x ≡ standing E p at r) where
    pub judges_current :
        (cost : ℕ) {j : Settled R} → j ≡ settled (judge (alone E) plan at x cost) →
        under p.number j ≡ settled (judge (planned E) p at r cost)
    unfolding settled_on
    judges_current cost s =
        ap (under p.number) (s ∙ ap (λ (q : Plan). settled (judge (alone E) q at x cost)) is)
        ∙ ap (settled_on E p at cost) e ∙ sym (settled_standing L p at r o cost)

    pub reports_current : {v : Verdict} → v ≡ report (alone E) plan at x → v ≡ report (planned E) p at r
    unfolding report_on
    reports_current s =
        s ∙ ap (λ (q : Plan). report (alone E) q at x) is ∙ ap (report_on E p at) e ∙ sym (report_standing L p at r o)
