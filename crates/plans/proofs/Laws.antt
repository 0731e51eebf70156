-- The page of laws holds.
-- Assumes nothing.
use mathlib.Core.Path.{◌≡◌, refl, sym, ap, ◌∙◌}
use mathlib.Core.Bool.{Bool, true, false, ◌&&◌, and-false}
use mathlib.Core.List.{List, [], ◌∷◌}
use Prim.Native.Nat.{ℕ, zero, suc, ◌≤◌, ◌<◌}
use native.Mathlib.Omega.{arith}
use lib.Dec.{eqb, leb}
use lib.ListN.{length}
use borrow.Author.Tests.{ne_eqb, le-leb, lt-leb}
use Rattle.ticks.specs.declared.plan.Plan.{Plan}
use Rattle.ticks.specs.Grains.{plan_ok}
use Rattle.rate.specs.Decision.{bare, admitted, throttled, reported}
use Rattle.rate.specs.Engine.{Engine}
use Rattle.rate.specs.Account.{Judged, alone, judge, report}
use Rattle.rate.proofs.Alone as engine
use Rattle.rate.proofs.Cases as cases
use Rattle.plans.specs.Plans.{Plans, plans_of, Planned, planned_of, most_plans, known, plan_at, all_ok, count_ok, lent_ok, plans_ok, asked, its, possible, fault_of, current, planned}
use Rattle.plans.specs.Laws.{ListLaws, SliceLaws, RecordLaws, OnePlan, Laws, EngineLaws}
use Rattle.plans.proofs.Lent.{lent_count, lent_none, lent_at, is_lent, is_unlent}
use Rattle.plans.proofs.Accounts.{fault_7, fault_12, fault_same, fault_drained, is_possible, is_unknown, owing_own, current_same, current_other, planned_balanced}

-- which lists are good
all_good : (ps : List Plan) → ((k : ℕ) → k < length ps → plan_ok (plan_at ps k) ≡ true) → all_ok ps ≡ true
unfolding all_ok plan_at
all_good [] h = refl
all_good (p ∷ rest) h = rw (h 0 (omega arith), all_good rest (λ k l. h (suc k) (omega arith))) refl

one_bad : (ps : List Plan) (k : ℕ) → k < length ps → plan_ok (plan_at ps k) ≡ false → all_ok ps ≡ false
unfolding all_ok plan_at
one_bad [] k h b = absurd (omega arith)
one_bad (p ∷ rest) zero h b = rw b refl
one_bad (p ∷ rest) (suc k) h b = ap (λ (t : Bool). plan_ok p && t) (one_bad rest k (omega arith) b) ∙ and-false (plan_ok p)

module _ (ps : List Plan) (number : ℕ) where
  bad_list : lent_ok ps ≡ false → plans_ok (plans_of ps number) ≡ false
  unfolding plans_ok
  bad_list e = ap (λ (t : Bool). t && known ps number) e

  bad_count : count_ok (length ps) ≡ false → plans_ok (plans_of ps number) ≡ false
  unfolding lent_ok
  bad_count e = bad_list (ap (λ (t : Bool). t && all_ok ps) e)

  bad_plan : all_ok ps ≡ false → plans_ok (plans_of ps number) ≡ false
  unfolding lent_ok
  bad_plan e = bad_list (ap (λ (t : Bool). count_ok (length ps) && t) e ∙ and-false (count_ok (length ps)))

  within :
      1 ≤ length ps → length ps ≤ 16 → number < length ps → ((k : ℕ) → k < length ps → plan_ok (plan_at ps k) ≡ true) →
      plans_ok (plans_of ps number) ≡ true
  unfolding plans_ok lent_ok count_ok
  within some few lent good =
      let most : length ps ≤ most_plans = omega arith in
      rw (le-leb 1 (length ps) some, le-leb (length ps) most_plans most, all_good ps good, is_lent ps number lent) refl

  beyond : 17 ≤ length ps → plans_ok (plans_of ps number) ≡ false
  unfolding count_ok
  beyond h =
      let most : most_plans < length ps = omega arith in
      bad_count (ap (λ (t : Bool). leb 1 (length ps) && t) (lt-leb (length ps) most_plans most) ∙ and-false (leb 1 (length ps)))

  unlent : length ps ≤ number → plans_ok (plans_of ps number) ≡ false
  unfolding plans_ok
  unlent h = ap (λ (t : Bool). lent_ok ps && t) (is_unlent ps number h) ∙ and-false (lent_ok ps)

  none : length ps ≡ 0 → plans_ok (plans_of ps number) ≡ false
  unfolding count_ok
  none h =
      let few : length ps < 1 = omega arith in
      bad_count (ap (λ (t : Bool). t && leb (length ps) most_plans) (lt-leb 1 (length ps) few))

  of_lists : ListLaws ps number
  of_lists =
      record {
        lent_within = within;
        lent_none = none;
        lent_beyond = beyond;
        lent_bad = λ k h b. bad_plan (one_bad ps k h b);
        not_lent = unlent;
      }

of_slices : (words : List ℕ) → SliceLaws words
of_slices words =
    record {
      count_is = lent_count words;
      not_whole = lent_none words;
      plan_is = λ k h. lent_at words k h;
    }

module _ {R : Type 0} (E : Engine R) (p : Plans) (at : ℕ) (r : Planned R) where
  impossible : E.sound (its E p at r) at r.held ≡ false → fault_of E p at r ≡ 7
  unfolding possible
  impossible s =
      fault_7 E p r at (ap (λ (t : Bool). known p.plans r.number && t) s ∙ and-false (known p.plans r.number))

  of_records : RecordLaws E p at r
  of_records =
      record {
        unknown_7 = λ h. fault_7 E p r at (is_unknown E p r at (is_unlent p.plans r.number h));
        impossible_7 = impossible;
        owes_12 = λ l s n o.
            fault_12 E p r at (is_possible E p r at (is_lent p.plans r.number l) s) (ne_eqb _ _ n)
            (ap (λ (b : ℕ). eqb b 0) (owing_own E p r at) ∙ ne_eqb (E.backlog (its E p at r) at r.held) 0 (λ z. omega (arith, o, z)));
        same_fault = λ l s n. fault_same E p r at (is_possible E p r at (is_lent p.plans r.number l) s) n;
        same_owes = λ n. ap (λ (x : R). E.backlog (asked p) at x) (current_same E p r at n);
        same_spends = λ cost n. ap (λ (x : R). planned_of p.number (E.spend (asked p) at x cost)) (current_same E p r at n);
        drained_fault = λ l s z.
            fault_drained E p r at (is_possible E p r at (is_lent p.plans r.number l) s) (owing_own E p r at ∙ z);
        other_owes = λ n. ap (λ (x : R). E.backlog (asked p) at x) (current_other E p r at (ne_eqb _ _ n));
        other_spends = λ cost n.
            ap (λ (x : R). planned_of p.number (E.spend (asked p) at x cost)) (current_other E p r at (ne_eqb _ _ n));
        free_by_its_own = λ l. ap (λ (t : Bool). t && E.free (its E p at r) at r.held) (is_lent p.plans r.number l);
        unknown_not_free = λ h. ap (λ (t : Bool). t && E.free (its E p at r) at r.held) (is_unlent p.plans r.number h);
      }

-- a record under the plan asked for is judged and reported as the engine does by it
module _ {R : Type 0} (E : Engine R) (p : Plans) (at : ℕ) (x : R) (k : known p.plans p.number ≡ true) where
  abbrev stored : Planned R
  stored = planned_of p.number x

  sound_fault : E.sound (asked p) at x ≡ true → fault_of E p at stored ≡ 0
  sound_fault s = fault_same E p stored at (is_possible E p stored at k s) refl

  here : current E p at stored ≡ x
  here = current_same E p stored at refl

  abbrev as_planned : Judged R → Judged (Planned R)
  as_planned j = record { verdict = j.verdict; after = planned_of p.number j.after }

  judge_same :
      (cost : ℕ) →
      judge (planned E) p at stored cost
      ≡ record { verdict = (judge (alone E) (asked p) at x cost).verdict; after = planned_of p.number (judge (alone E) (asked p) at x cost).after }
  judge_same cost = by (E.sound (asked p) at x) refl (E.admits (asked p) at x cost) refl
    where
      by :
          (s : Bool) → E.sound (asked p) at x ≡ s → (a : Bool) → E.admits (asked p) at x cost ≡ a →
          judge (planned E) p at stored cost ≡ as_planned (judge (alone E) (asked p) at x cost)
      by false s a ea =
          let fault = impossible E p at stored s in
          cases.judge_faulty (planned E) p at stored cost (ap (λ (n : ℕ). eqb n 0) fault)
          ∙ ap (λ (n : ℕ). record { verdict = bare n; after = stored }) fault
          ∙ sym (ap as_planned (engine.judge_corrupt E (asked p) at x cost s))
      by true s true a =
          cases.judge_admitted (planned E) p at stored cost (sound_fault s) (ap (λ (y : R). E.admits (asked p) at y cost) here ∙ a)
          ∙ ap (λ (y : R). record { verdict = admitted (asked p) at (E.backlog (asked p) at y) cost; after = planned_of p.number (E.spend (asked p) at y cost) }) here
          ∙ sym (ap as_planned (engine.judge_admitted E (asked p) at x cost s a))
      by true s false a =
          cases.judge_throttled (planned E) p at stored cost (sound_fault s) (ap (λ (y : R). E.admits (asked p) at y cost) here ∙ a)
          ∙ ap (λ (y : R). record { verdict = throttled (asked p) at (E.backlog (asked p) at y) cost; after = stored }) here
          ∙ sym (ap as_planned (engine.judge_throttled E (asked p) at x cost s a))

  report_same : report (planned E) p at stored ≡ report (alone E) (asked p) at x
  report_same = by (E.sound (asked p) at x) refl
    where
      by : (s : Bool) → E.sound (asked p) at x ≡ s → report (planned E) p at stored ≡ report (alone E) (asked p) at x
      by false s =
          let fault = impossible E p at stored s in
          cases.report_faulty (planned E) p at stored (ap (λ (n : ℕ). eqb n 0) fault) ∙ ap (λ (n : ℕ). bare n) fault
          ∙ sym (engine.report_corrupt E (asked p) at x s)
      by true s =
          cases.report_sound (planned E) p at stored (sound_fault s)
          ∙ ap (λ (y : R). reported (asked p) at (E.backlog (asked p) at y)) here
          ∙ sym (engine.report_sound E (asked p) at x s)

one_check : (plan : Plan) → plans_ok (plans_of (plan ∷ []) 0) ≡ plan_ok plan
unfolding plans_ok lent_ok count_ok all_ok known
one_check plan = by (plan_ok plan)
  where
    by : (t : Bool) → ((t && true) && true) ≡ t
    by true = refl
    by false = refl

one_plan : {R : Type 0} (E : Engine R) (plan : Plan) (at : ℕ) (r : R) → OnePlan E plan at r
unfolding known plan_at
one_plan E plan at r =
    record {
      same_check = one_check plan;
      same_free = refl;
      same_judge = λ cost. judge_same E (plans_of (plan ∷ []) 0) at r refl cost;
      same_report = report_same E (plans_of (plan ∷ []) 0) at r refl;
    }

pub laws : Laws
laws = record { of_lists = of_lists; of_slices = of_slices }

pub engine_laws : {R : Type 0} (E : Engine R) → EngineLaws E
engine_laws E = record { of_records = of_records E; one_plan = one_plan E; balanced = planned_balanced }
