-- The laws of this crate, with document 02's numbers: which lists are good, how a list lies in a slice, and what an engine with the
-- backlog law comes to under the plans lent. proofs/Laws shows them.
use Rattle.std.specs.Prelude.{ℕ, ◌+◌, ◌*◌, ◌/◌, ◌%◌, ◌≤◌, ◌<◌, ◌≡◌, true, false, List, [], ◌∷◌, length, get_or}
use Rattle.ticks.specs.declared.plan.Plan.{Plan}
use Rattle.ticks.specs.Grains.{plan_ok}
use Rattle.rate.specs.Engine.{Engine}
use Rattle.rate.specs.Lawful.{Lawful}
use Rattle.rate.specs.Account.{alone, judge, report}
use Rattle.rate.specs.Balanced.{Balanced}
use Rattle.plans.specs.Plans.{Plans, plans_of, Planned, planned_of, plan_at, plans_ok, asked, its, planned}
use Rattle.plans.specs.Lent.{plans_in}

-- document 02, Item 3: any bad plan among those lent, none, more than 16, or asking for one not lent gives 1
pub record ListLaws (ps : List Plan) (number : ℕ) : Type 0 where
  pub lent_within :
      1 ≤ length ps → length ps ≤ 16 → number < length ps → ((k : ℕ) → k < length ps → plan_ok (plan_at ps k) ≡ true) →
      plans_ok (plans_of ps number) ≡ true
  pub lent_none : length ps ≡ 0 → plans_ok (plans_of ps number) ≡ false
  pub lent_beyond : 17 ≤ length ps → plans_ok (plans_of ps number) ≡ false
  pub lent_bad : (k : ℕ) → k < length ps → plan_ok (plan_at ps k) ≡ false → plans_ok (plans_of ps number) ≡ false
  pub not_lent : length ps ≤ number → plans_ok (plans_of ps number) ≡ false

-- a slice has limit, period and burst of plan 0, then of plan 1, and so on; one whose length is no multiple of 3 has no plans
pub record SliceLaws (words : List ℕ) : Type 0 where
  pub count_is : length words % 3 ≡ 0 → length (plans_in words) ≡ length words / 3
  pub not_whole : (length words % 3 ≡ 0 → ⊥) → length (plans_in words) ≡ 0
  pub plan_is :
      (k : ℕ) → k < length (plans_in words) →
      plan_at (plans_in words) k
      ≡ record { limit = get_or words (k * 3) 0; period = get_or words (k * 3 + 1) 0; burst = get_or words (k * 3 + 2) 0 }

-- a record at a moment, under plans that passed check 1
pub record RecordLaws {R : Type 0} (E : Engine R) (p : Plans) (at : ℕ) (r : Planned R) : Type 0 where
  -- an unknown number gives its owner 7, which is otherwise judged by the stored plan
  pub unknown_7 : length p.plans ≤ r.number → (planned E).fault p at r ≡ 7
  pub impossible_7 : E.sound (its E p at r) at r.held ≡ false → (planned E).fault p at r ≡ 7
  -- who still owes and asks for another plan gets 12
  pub owes_12 :
      r.number < length p.plans → E.sound (its E p at r) at r.held ≡ true → (r.number ≡ p.number → ⊥) →
      1 ≤ E.backlog (its E p at r) at r.held → (planned E).fault p at r ≡ 12
  -- a record of the plan asked for is judged as it is
  pub same_fault :
      r.number < length p.plans → E.sound (its E p at r) at r.held ≡ true → r.number ≡ p.number → (planned E).fault p at r ≡ 0
  pub same_owes : r.number ≡ p.number → (planned E).backlog p at r ≡ E.backlog (asked p) at r.held
  pub same_spends : (cost : ℕ) → r.number ≡ p.number → (planned E).spend p at r cost ≡ planned_of p.number (E.spend (asked p) at r.held cost)
  -- who owes nothing and asks for another is treated as having no record
  pub drained_fault :
      r.number < length p.plans → E.sound (its E p at r) at r.held ≡ true → E.backlog (its E p at r) at r.held ≡ 0 →
      (planned E).fault p at r ≡ 0
  pub other_owes : (r.number ≡ p.number → ⊥) → (planned E).backlog p at r ≡ E.backlog (asked p) at (E.fresh (asked p) at)
  pub other_spends :
      (cost : ℕ) → (r.number ≡ p.number → ⊥) →
      (planned E).spend p at r cost ≡ planned_of p.number (E.spend (asked p) at (E.fresh (asked p) at) cost)
  -- a slot is free by its own plan, and by none if that is not lent
  pub free_by_its_own : r.number < length p.plans → (planned E).free p at r ≡ E.free (its E p at r) at r.held
  pub unknown_not_free : length p.plans ≤ r.number → (planned E).free p at r ≡ false

-- a list of one plan is an engine under that plan
pub record OnePlan {R : Type 0} (E : Engine R) (plan : Plan) (at : ℕ) (r : R) : Type 0 where
  pub same_check : plans_ok (plans_of (plan ∷ []) 0) ≡ plan_ok plan
  pub same_free : (planned E).free (plans_of (plan ∷ []) 0) at (planned_of 0 r) ≡ E.free plan at r
  pub same_judge :
      (cost : ℕ) →
      judge (planned E) (plans_of (plan ∷ []) 0) at (planned_of 0 r) cost
      ≡ record { verdict = (judge (alone E) plan at r cost).verdict; after = planned_of 0 (judge (alone E) plan at r cost).after }
  pub same_report : report (planned E) (plans_of (plan ∷ []) 0) at (planned_of 0 r) ≡ report (alone E) plan at r

pub record Laws : Type 0 where
  pub of_lists : (ps : List Plan) (number : ℕ) → ListLaws ps number
  pub of_slices : (words : List ℕ) → SliceLaws words

-- of any engine
pub record EngineLaws {R : Type 0} (E : Engine R) : Type 0 where
  pub of_records : (p : Plans) (at : ℕ) (r : Planned R) → RecordLaws E p at r
  pub one_plan : (plan : Plan) (at : ℕ) (r : R) → OnePlan E plan at r
  -- one with the backlog law keeps an account with it under any plans, so all laws of accounts hold of it
  pub balanced : Lawful E → Balanced (planned E)
