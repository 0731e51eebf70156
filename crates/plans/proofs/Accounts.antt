-- An engine with the backlog law, under any plans lent, keeps a balanced account.
-- Assumes nothing.
use mathlib.Core.Path.{◌≡◌, refl, sym, ap, ap₂, ◌∙◌}
use mathlib.Core.Bool.{Bool, true, false, ◌&&◌}
use mathlib.Core.List.{List, [], ◌∷◌}
use Prim.Native.Nat.{ℕ, zero, suc, ◌-◌, ◌≤◌}
use native.Mathlib.Omega.{arith}
use lib.Dec.{eqb}
use lib.ListN.{length}
use borrow.Author.Tests.{eq-eqb, eqb-true, leb-true, lt-ltb, ltb-true}
use Rattle.ticks.specs.declared.plan.Plan.{Plan}
use Rattle.ticks.specs.Grains.{ticks_in, plan_ok, InForce}
use Rattle.ticks.proofs.Limits.{in_force, within_limits}
use Rattle.ticks.proofs.Tests.{both}
use Rattle.rate.specs.Engine.{Engine}
use Rattle.rate.specs.Lawful.{Lawful}
use Rattle.rate.specs.Balanced.{Balanced, Fault, fine, corrupt, elsewhere}
use Rattle.plans.specs.Plans.{Plans, Planned, planned_of, most_plans, known, plan_at, all_ok, count_ok, lent_ok, plans_ok, Lending, Lent, asked, its, possible, owing, fault_of, current, planned}

-- a plan that is lent among good ones is good
pub known_ok : (ps : List Plan) (k : ℕ) → all_ok ps ≡ true → known ps k ≡ true → plan_ok (plan_at ps k) ≡ true
unfolding all_ok known plan_at
known_ok [] k a h = absurd (omega (arith, ltb-true k 0 h))
known_ok (p ∷ rest) zero a h = (both (plan_ok p) (all_ok rest) a).0
known_ok (p ∷ rest) (suc k) a h =
    known_ok rest k (both (plan_ok p) (all_ok rest) a).1 (lt-ltb k (length rest) (omega (arith, ltb-true (suc k) (length (p ∷ rest)) h)))

-- check 1, passed
module _ (p : Plans) (o : plans_ok p ≡ true) where
  pub ok_known : known p.plans p.number ≡ true
  unfolding plans_ok
  ok_known = (both (lent_ok p.plans) (known p.plans p.number) o).1

  ok_lent : lent_ok p.plans ≡ true
  unfolding plans_ok
  ok_lent = (both (lent_ok p.plans) (known p.plans p.number) o).0

  ok_all : all_ok p.plans ≡ true
  unfolding lent_ok
  ok_all = (both (count_ok (length p.plans)) (all_ok p.plans) ok_lent).1

  -- how many are lent
  ok_count : (1 ≤ length p.plans) × (length p.plans ≤ most_plans)
  unfolding lent_ok count_ok
  ok_count =
      let h = both _ _ (both (count_ok (length p.plans)) (all_ok p.plans) ok_lent).0 in
      (leb-true 1 (length p.plans) h.0, leb-true (length p.plans) most_plans h.1)

  -- every plan that is lent is good
  pub ok_at : (k : ℕ) → known p.plans k ≡ true → plan_ok (plan_at p.plans k) ≡ true
  ok_at k h = known_ok p.plans k ok_all h

-- the facts of a good list of plans
pub ok_facts : (p : Plans) → plans_ok p ≡ true → Lent p.plans
unfolding known
ok_facts p o =
    record {
      least = (ok_count p o).0;
      most = (ok_count p o).1;
      each = λ k h. within_limits (plan_at p.plans k) (ok_at p o k (lt-ltb k (length p.plans) h));
    }

-- every plan that is lent is in force, and so is the one asked for
pub in_force_at : (p : Plans) (at : ℕ) → Lending p at → (k : ℕ) → known p.plans k ≡ true → InForce (plan_at p.plans k) at
in_force_at p at l k h = in_force (plan_at p.plans k) at (ok_at p l.plans k h) l.moment

pub in_force_asked : (p : Plans) (at : ℕ) → Lending p at → InForce (asked p) at
in_force_asked p at l = in_force_at p at l p.number (ok_known p l.plans)

-- the fault of a record
module _ {R : Type 0} (E : Engine R) (p : Plans) (r : Planned R) (at : ℕ) where
  -- what it owes is the engine's backlog by its own plan
  pub owing_own : owing E p at r ≡ E.backlog (its E p at r) at r.held
  unfolding owing
  owing_own = refl

  pub fault_7 : possible E p at r ≡ false → fault_of E p at r ≡ 7
  unfolding fault_of
  fault_7 h = rw h refl

  module _ (h : possible E p at r ≡ true) where
    pub fault_same : r.number ≡ p.number → fault_of E p at r ≡ 0
    unfolding fault_of
    fault_same e = rw (h, eq-eqb r.number p.number e) refl

    pub fault_drained : owing E p at r ≡ 0 → fault_of E p at r ≡ 0
    unfolding fault_of
    fault_drained e = by (eqb r.number p.number) refl
      where
        by : (t : Bool) → eqb r.number p.number ≡ t → fault_of E p at r ≡ 0
        by true t = rw (h, t) refl
        by false t = rw (h, t, e) refl

    pub fault_12 : eqb r.number p.number ≡ false → eqb (owing E p at r) 0 ≡ false → fault_of E p at r ≡ 12
    unfolding fault_of
    fault_12 e o = rw (h, e, o) refl

  pub is_possible : known p.plans r.number ≡ true → E.sound (its E p at r) at r.held ≡ true → possible E p at r ≡ true
  unfolding possible
  is_possible k s = ap₂ (λ (a b : Bool). a && b) k s

  pub is_unknown : known p.plans r.number ≡ false → possible E p at r ≡ false
  unfolding possible
  is_unknown k = ap (λ (t : Bool). t && E.sound (its E p at r) at r.held) k

  pub is_unsound : known p.plans r.number ≡ true → E.sound (its E p at r) at r.held ≡ false → possible E p at r ≡ false
  unfolding possible
  is_unsound k s = ap₂ (λ (a b : Bool). a && b) k s

  -- what is judged
  pub current_same : r.number ≡ p.number → current E p at r ≡ r.held
  unfolding current
  current_same e = rw (eq-eqb r.number p.number e) refl

  pub current_other : eqb r.number p.number ≡ false → current E p at r ≡ E.fresh (asked p) at
  unfolding current
  current_other e = rw e refl

  -- what a record without a fault is: possible, and of the plan asked for or owing nothing
  pub data Judgeable : Type 0 where
    same : r.number ≡ p.number → E.sound (its E p at r) at r.held ≡ true → known p.plans r.number ≡ true → Judgeable
    other :
        eqb r.number p.number ≡ false → E.sound (its E p at r) at r.held ≡ true → known p.plans r.number ≡ true →
        E.backlog (its E p at r) at r.held ≡ 0 → Judgeable

  -- which of the cases it is
  pub data Case : Type 0 where
    judged : fault_of E p at r ≡ 0 → Judgeable → Case
    impossible : fault_of E p at r ≡ 7 → Case
    owes : fault_of E p at r ≡ 12 → Case

  pub cases : Case
  unfolding possible owing
  cases = by (possible E p at r) refl (eqb r.number p.number) refl (eqb (owing E p at r) 0) refl
    where
      parts : possible E p at r ≡ true → (known p.plans r.number ≡ true) × (E.sound (its E p at r) at r.held ≡ true)
      parts h = both (known p.plans r.number) (E.sound (its E p at r) at r.held) h

      by :
          (h : Bool) → possible E p at r ≡ h → (t : Bool) → eqb r.number p.number ≡ t → (o : Bool) →
          eqb (owing E p at r) 0 ≡ o → Case
      by true h true t o eo = judged (fault_same h (eqb-true _ _ t)) (same (eqb-true _ _ t) (parts h).1 (parts h).0)
      by true h false t true eo = judged (fault_drained h (eqb-true _ _ eo)) (other t (parts h).1 (parts h).0 (eqb-true _ _ eo))
      by true h false t false eo = owes (fault_12 h t eo)
      by false h t et o eo = impossible (fault_7 h)

  pub judgeable : fault_of E p at r ≡ 0 → Judgeable
  judgeable e = by cases
    where
      by : Case → Judgeable
      by (judged f j) = j
      by (impossible f) = absurd (omega (arith, f))
      by (owes f) = absurd (omega (arith, f))

  faults : Fault (fault_of E p at r)
  faults = by cases
    where
      by : Case → Fault (fault_of E p at r)
      by (judged f j) = fine f
      by (impossible f) = corrupt f
      by (owes f) = elsewhere f

module _ {R : Type 0} {E : Engine R} (L : Lawful E) (p : Plans) where
  module _ (r : Planned R) where
    owes_same : (at : ℕ) → r.number ≡ p.number → E.backlog (asked p) at (current E p at r) ≡ E.backlog (its E p at r) at r.held
    owes_same at e =
        ap (λ (x : R). E.backlog (asked p) at x) (current_same E p r at e) ∙ ap (λ (k : ℕ). E.backlog (plan_at p.plans k) at r.held) (sym e)

    pub owes_other : (at : ℕ) → eqb r.number p.number ≡ false → E.backlog (asked p) at (current E p at r) ≡ 0
    owes_other at e = ap (λ (x : R). E.backlog (asked p) at x) (current_other E p r at e) ∙ L.fresh_owes_nothing (asked p) at

    -- a record without a fault owes what it owes by its own plan
    pub owes_own : (at : ℕ) → fault_of E p at r ≡ 0 → E.backlog (asked p) at (current E p at r) ≡ E.backlog (its E p at r) at r.held
    owes_own at e = by (judgeable E p r at e)
      where
        by : Judgeable E p r at → E.backlog (asked p) at (current E p at r) ≡ E.backlog (its E p at r) at r.held
        by (same n s k) = owes_same at n
        by (other n s k z) = owes_other at n ∙ sym z

    -- what is judged is sound by the plan asked for
    pub sound_current : (at : ℕ) → fault_of E p at r ≡ 0 → E.sound (asked p) at (current E p at r) ≡ true
    sound_current at e = by (judgeable E p r at e)
      where
        by : Judgeable E p r at → E.sound (asked p) at (current E p at r) ≡ true
        by (same n s k) =
            ap (λ (x : R). E.sound (asked p) at x) (current_same E p r at n)
            ∙ ap (λ (k : ℕ). E.sound (plan_at p.plans k) at r.held) (sym n) ∙ s
        by (other n s k z) = ap (λ (x : R). E.sound (asked p) at x) (current_other E p r at n) ∙ L.fresh_sound (asked p) at

    stays : (l k : ℕ) → l ≤ k → Judgeable E p r l → fault_of E p k r ≡ 0
    unfolding owing
    stays l k h (same n s w) = fault_same E p r k (is_possible E p r k w (L.stays_sound (its E p l r) l k r.held h s)) n
    stays l k h (other n s w z) =
        fault_drained E p r k (is_possible E p r k w (L.stays_sound (its E p l r) l k r.held h s))
        (omega (arith, z, L.drains (its E p l r) l k r.held h s))

    drains :
        (l k : ℕ) → l ≤ k → Judgeable E p r l →
        E.backlog (asked p) k (current E p k r) ≡ E.backlog (asked p) l (current E p l r) - ticks_in (asked p) (k - l)
    drains l k h (same n s w) =
        owes_same k n ∙ L.drains (its E p l r) l k r.held h s
        ∙ ap₂ (λ (b : ℕ) (q : Plan). b - ticks_in q (k - l)) (sym (owes_same l n)) (ap (λ (k : ℕ). plan_at p.plans k) n)
    drains l k h (other n s w z) = owes_other k n ∙ omega (arith, owes_other l n)

    free_iff :
        (at : ℕ) →
        (known p.plans r.number && E.free (its E p at r) at r.held)
        ≡ (eqb (fault_of E p at r) 0 && eqb (E.backlog (asked p) at (current E p at r)) 0)
    unfolding owing
    free_iff at =
        ap (λ (t : Bool). known p.plans r.number && t) (L.free_iff (its E p at r) at r.held)
        ∙ by (known p.plans r.number) refl (E.sound (its E p at r) at r.held) refl (eqb r.number p.number) refl
        (eqb (E.backlog (its E p at r) at r.held) 0) refl
      where
        by :
            (k : Bool) → known p.plans r.number ≡ k → (s : Bool) → E.sound (its E p at r) at r.held ≡ s → (t : Bool) →
            eqb r.number p.number ≡ t → (z : Bool) → eqb (E.backlog (its E p at r) at r.held) 0 ≡ z →
            (known p.plans r.number && (E.sound (its E p at r) at r.held && eqb (E.backlog (its E p at r) at r.held) 0))
            ≡ (eqb (fault_of E p at r) 0 && eqb (E.backlog (asked p) at (current E p at r)) 0)
        by false k s es t et z ez = rw (k, ap (λ (n : ℕ). eqb n 0) (fault_7 E p r at (is_unknown E p r at k))) refl
        by true k false s t et z ez = rw (k, s, ap (λ (n : ℕ). eqb n 0) (fault_7 E p r at (is_unsound E p r at k s))) refl
        by true k true s true t z ez =
            rw (k, s, ap (λ (n : ℕ). eqb n 0) (fault_same E p r at (is_possible E p r at k s) (eqb-true _ _ t)), owes_same at (eqb-true _ _ t)) refl
        by true k true s false t true z =
            rw (k, s, z, ap (λ (n : ℕ). eqb n 0) (fault_drained E p r at (is_possible E p r at k s) (eqb-true _ _ z)), owes_other at t) refl
        by true k true s false t false z =
            rw (k, s, z, ap (λ (n : ℕ). eqb n 0) (fault_12 E p r at (is_possible E p r at k s) t z)) refl

  -- a record under the plan asked for
  here : (at : ℕ) (x : R) → current E p at (planned_of p.number x) ≡ x
  here at x = current_same E p (planned_of p.number x) at refl

  here_sound : (at : ℕ) (x : R) → plans_ok p ≡ true → E.sound (asked p) at x ≡ true → fault_of E p at (planned_of p.number x) ≡ 0
  here_sound at x o s =
      let w = planned_of p.number x in
      fault_same E p w at (is_possible E p w at (ok_known p o) s) refl

pub planned_balanced : {R : Type 0} {E : Engine R} → Lawful E → Balanced (planned E)
planned_balanced {R = R} {E = E} L =
    record {
      ok_plan = λ p o. ok_at p o p.number (ok_known p o);
      faults = λ p at r. faults E p r at;
      stays_sound = λ p l k r h e. stays L p r l k h (judgeable E p r l e);
      within = λ p at r e. L.within (asked p) at (current E p at r) (sound_current L p r at e);
      drains = λ p l k r h e. drains L p r l k h (judgeable E p r l e);
      free_iff = λ p at r. free_iff L p r at;
      admits_iff = λ p at r cost. L.admits_iff (asked p) at (current E p at r) cost;
      spends = λ p at r cost a.
          ap (λ (x : R). E.backlog (asked p) at x) (here L p at (E.spend (asked p) at (current E p at r) cost))
          ∙ L.spends (asked p) at (current E p at r) cost a;
      spends_sound = λ p at r cost o a. here_sound L p at _ o (L.spends_sound (asked p) at (current E p at r) cost a);
      fresh_sound = λ p at o. here_sound L p at _ o (L.fresh_sound (asked p) at);
      fresh_owes_nothing = λ p at.
          ap (λ (x : R). E.backlog (asked p) at x) (here L p at (E.fresh (asked p) at)) ∙ L.fresh_owes_nothing (asked p) at;
    }
