-- What is judged under the plans lent: an ask and a look come to what the engine says by the plan asked for of the record that stands
-- to be judged, or to what stands in its way. And what an engine's function that finds this owes at each return.
-- Assumes nothing.
use mathlib.Core.Path.{◌≡◌, refl, sym, ap, ap₂, ◌∙◌}
use mathlib.Core.Bool.{Bool, true, false, false≢true}
use Prim.Native.Nat.{ℕ}
use lib.Dec.{eqb}
use borrow.Author.Tests.{eq-eqb, eqb-true}
use Rattle.rate.specs.Decision.{Verdict, bare}
use Rattle.rate.specs.Engine.{Engine}
use Rattle.rate.specs.Account.{Judged, alone, judge, report, kept, spent, settled}
use Rattle.rate.specs.Lawful.{Lawful}
use Rattle.rate.proofs.Alone as alone
use Rattle.rate.proofs.Answers.{bare_number, admitted_number}
use Rattle.rate.proofs.ClockEnd.{throttled_not_0}
use Rattle.rate.proofs.Cases.{judge_faulty, judge_admitted, judge_throttled, report_faulty, report_sound, settled_spent, settled_kept}
use Rattle.plans.specs.Plans.{Plans, Planned, planned_of, known, plan_at, plans_ok, asked, its, possible, owing, fault_of, current, planned}
use Rattle.plans.specs.Standing.{refused, judged, standing, report_on, settled_on, under}
use Rattle.plans.proofs.Accounts.{ok_known, fault_7, fault_12, fault_drained, fault_same, is_possible, is_unknown, is_unsound, current_same, current_other}

-- a judgement of which it is known what it is
settles : {R : Type 0} {j : Judged R} (k : Judged R) → j ≡ k → settled j ≡ settled k
settles k e = ap (λ (x : Judged _). settled x) e

module _ {R : Type 0} (E : Engine R) (p : Plans) (at : ℕ) (r : Planned R) where
  -- what stands in the way answers by itself
  settled_refused : (cost n : ℕ) → eqb n 0 ≡ false → fault_of E p at r ≡ n → settled (judge (planned E) p at r cost) ≡ kept (bare n)
  settled_refused cost n some e =
      settles _ (judge_faulty (planned E) p at r cost (ap (λ (k : ℕ). eqb k 0) e ∙ some))
      ∙ ap (λ (k : ℕ). settled (record { verdict = bare k; after = r })) e
      ∙ settled_kept (record { verdict = bare n; after = r }) (ap (λ (k : ℕ). eqb k 0) (bare_number n) ∙ some)

  report_refused : (n : ℕ) → eqb n 0 ≡ false → fault_of E p at r ≡ n → report (planned E) p at r ≡ bare n
  report_refused n some e =
      report_faulty (planned E) p at r (ap (λ (k : ℕ). eqb k 0) e ∙ some) ∙ ap (λ (k : ℕ). bare k) e

  -- else the engine judges what is current, by the plan asked for
  module _ (s : E.sound (asked p) at (current E p at r) ≡ true) (f : fault_of E p at r ≡ 0) where
    settled_current :
        (cost : ℕ) →
        settled (judge (planned E) p at r cost) ≡ under p.number (settled (judge (alone E) (asked p) at (current E p at r) cost))
    unfolding under
    settled_current cost = by (E.admits (asked p) at (current E p at r) cost) refl
      where
        by :
            (t : Bool) → E.admits (asked p) at (current E p at r) cost ≡ t →
            settled (judge (planned E) p at r cost) ≡ under p.number (settled (judge (alone E) (asked p) at (current E p at r) cost))
        by true a =
            settles _ (judge_admitted (planned E) p at r cost f a)
            ∙ settled_spent _ (eq-eqb _ _ (admitted_number (asked p) at _ cost))
            ∙ sym (ap (under p.number)
            (settles _ (alone.judge_admitted E (asked p) at (current E p at r) cost s a)
            ∙ settled_spent _ (eq-eqb _ _ (admitted_number (asked p) at _ cost))))
        by false a =
            settles _ (judge_throttled (planned E) p at r cost f a)
            ∙ settled_kept _ (throttled_not_0 (asked p) at _ cost)
            ∙ sym (ap (under p.number)
            (settles _ (alone.judge_throttled E (asked p) at (current E p at r) cost s a)
            ∙ settled_kept _ (throttled_not_0 (asked p) at _ cost)))

    report_current : report (planned E) p at r ≡ report (alone E) (asked p) at (current E p at r)
    report_current = report_sound (planned E) p at r f ∙ sym (alone.report_sound E (asked p) at (current E p at r) s)

  -- how a record stands
  pub stands_same : r.number ≡ p.number → judged r.held ≡ standing E p at r
  unfolding standing
  stands_same e = rw (eq-eqb r.number p.number e) refl

  module _ (n : eqb r.number p.number ≡ false) where
    stands_impossible : possible E p at r ≡ false → refused 7 ≡ standing E p at r
    unfolding standing
    stands_impossible h = rw (n, h) refl

    pub stands_unknown : known p.plans r.number ≡ false → refused 7 ≡ standing E p at r
    stands_unknown k = stands_impossible (is_unknown E p r at k)

    pub stands_unsound :
        known p.plans r.number ≡ true → E.sound (its E p at r) at r.held ≡ false → refused 7 ≡ standing E p at r
    stands_unsound k s = stands_impossible (is_unsound E p r at k s)

    module _ (h : possible E p at r ≡ true) where
      pub stands_owing : eqb (E.backlog (its E p at r) at r.held) 0 ≡ false → refused 12 ≡ standing E p at r
      unfolding standing owing
      stands_owing o = rw (n, h, o) refl

      pub stands_drained : eqb (E.backlog (its E p at r) at r.held) 0 ≡ true → judged (E.fresh (asked p) at) ≡ standing E p at r
      unfolding standing owing
      stands_drained o = rw (n, h, o) refl

-- a record stands in one of two ways
module _ {R : Type 0} {E : Engine R} (L : Lawful E) (p : Plans) (at : ℕ) (r : Planned R) (o : plans_ok p ≡ true) where
  data Stands : Type 0 where
    refuses : (n : ℕ) → eqb n 0 ≡ false → fault_of E p at r ≡ n → refused n ≡ standing E p at r → Stands
    judges :
        (E.sound (asked p) at (current E p at r) ≡ true → fault_of E p at r ≡ 0) →
        (E.sound (asked p) at (current E p at r) ≡ false → fault_of E p at r ≡ 7) →
        judged (current E p at r) ≡ standing E p at r → Stands

  same : r.number ≡ p.number → Stands
  same n =
      let k : known p.plans r.number ≡ true = ap (λ (k : ℕ). known p.plans k) n ∙ ok_known p o in
      let own : E.sound (its E p at r) at r.held ≡ E.sound (asked p) at (current E p at r) =
      ap₂ (λ (k : ℕ) (x : R). E.sound (plan_at p.plans k) at x) n (sym (current_same E p r at n)) in
      judges (λ s. fault_same E p r at (is_possible E p r at k (own ∙ s)) n) (λ s. fault_7 E p r at (is_unsound E p r at k (own ∙ s)))
      (ap (λ (x : R). judged x) (current_same E p r at n) ∙ stands_same E p at r n)

  other : eqb r.number p.number ≡ false → Stands
  unfolding owing
  other n = by (possible E p at r) refl (eqb (owing E p at r) 0) refl
    where
      new : E.sound (asked p) at (current E p at r) ≡ true
      new = ap (λ (x : R). E.sound (asked p) at x) (current_other E p r at n) ∙ L.fresh_sound (asked p) at

      by : (h : Bool) → possible E p at r ≡ h → (z : Bool) → eqb (owing E p at r) 0 ≡ z → Stands
      by false h z ez = refuses 7 refl (fault_7 E p r at h) (stands_impossible E p at r n h)
      by true h false z = refuses 12 refl (fault_12 E p r at h n z) (stands_owing E p at r n h z)
      by true h true z =
          judges (λ s. fault_drained E p r at h (eqb-true _ _ z)) (λ s. absurd (false≢true (sym s ∙ new)))
          (ap (λ (x : R). judged x) (current_other E p r at n) ∙ stands_drained E p at r n h z)

  stands : Stands
  stands = by (eqb r.number p.number) refl
    where
      by : (t : Bool) → eqb r.number p.number ≡ t → Stands
      by true t = same (eqb-true _ _ t)
      by false t = other t

  -- an ask comes to what is said of how its record stands
  pub settled_standing : (cost : ℕ) → settled (judge (planned E) p at r cost) ≡ settled_on E p at cost (standing E p at r)
  unfolding settled_on under
  settled_standing cost = by stands
    where
      by : Stands → settled (judge (planned E) p at r cost) ≡ settled_on E p at cost (standing E p at r)
      by (refuses n some f e) = settled_refused E p at r cost n some f ∙ ap (settled_on E p at cost) e
      by (judges fine corrupt e) = on (E.sound (asked p) at (current E p at r)) refl ∙ ap (settled_on E p at cost) e
        where
          on :
              (t : Bool) → E.sound (asked p) at (current E p at r) ≡ t →
              settled (judge (planned E) p at r cost) ≡ under p.number (settled (judge (alone E) (asked p) at (current E p at r) cost))
          on true s = settled_current E p at r s (fine s) cost
          on false s =
              settled_refused E p at r cost 7 refl (corrupt s)
              ∙ sym (ap (under p.number) (settles _ (alone.judge_corrupt E (asked p) at (current E p at r) cost s)
              ∙ settled_kept (record { verdict = bare 7; after = current E p at r }) (ap (λ (k : ℕ). eqb k 0) (bare_number 7))))

  -- .. and a look
  pub report_standing : report (planned E) p at r ≡ report_on E p at (standing E p at r)
  unfolding report_on
  report_standing = by stands
    where
      by : Stands → report (planned E) p at r ≡ report_on E p at (standing E p at r)
      by (refuses n some f e) = report_refused E p at r n some f ∙ ap (report_on E p at) e
      by (judges fine corrupt e) = on (E.sound (asked p) at (current E p at r)) refl ∙ ap (report_on E p at) e
        where
          on :
              (t : Bool) → E.sound (asked p) at (current E p at r) ≡ t →
              report (planned E) p at r ≡ report (alone E) (asked p) at (current E p at r)
          on true s = report_current E p at r s (fine s)
          on false s = report_refused E p at r 7 refl (corrupt s) ∙ sym (alone.report_corrupt E (asked p) at (current E p at r) s)

-- a record that is kept, and one that is put in its place
pub under_kept : {R : Type 0} (number : ℕ) (v : Verdict) → under {R = R} number (kept v) ≡ kept v
unfolding under
under_kept number v = refl

pub under_spent : {R : Type 0} (number : ℕ) (v : Verdict) (x : R) → under number (spent v x) ≡ spent v (planned_of number x)
unfolding under
under_spent number v x = refl
