-- An ask of a table and of a history that are related: both answer alike and stay related. At a moment before the newest both say 11,
-- and up to any other what each has drains alike.
-- Assumes nothing.
use mathlib.Core.Path.{◌≡◌, refl, sym, ap, subst, ◌∙◌}
use mathlib.Core.Bool.{Bool, true, false}
use mathlib.Core.List.{List, [], ◌∷◌, ◌++◌}
use Prim.Native.Nat.{ℕ, zero, suc, ◌≤◌}
use native.Mathlib.Omega.{arith}
use lib.Dec.{eqb}
use borrow.Author.Tests.{ne_eqb, ltb-false}
use Rattle.ticks.specs.declared.plan.Plan.{Plan}
use Rattle.rate.specs.Answer.{answered}
use Rattle.rate.specs.Decision.{admissible, bare, admitted, throttled}
use Rattle.rate.specs.Engine.{Engine}
use Rattle.rate.specs.Lawful.{Lawful}
use Rattle.rate.proofs.Fresh.{burst_admissible, fresh_admits}
use Rattle.plans.specs.declared.planned.Planned.{Planned}
use Rattle.plans.specs.Plans.{Plans, planned_of, known, asked, current, fault_of, planned}
use Rattle.plans.proofs.Accounts.{planned_balanced, ok_known}
use Rattle.table.specs.Request.{Request}
use Rattle.table.specs.Checks.{Toll, request_check}
use Rattle.table.specs.Rule.{Rule, rule_of}
use Rattle.table.specs.Slots.{Columns}
use Rattle.table.specs.Calls as calls
use Rattle.table.specs.Calls.{slot_for}
use Rattle.table.specs.Passed.{Payable}
use Rattle.table.specs.Places.{Own, Unknown, Vacant}
use Rattle.table.specs.Stored.{Stored}
use Rattle.table.proofs.Checks.{asked_since, payable, pays}
use Rattle.table.proofs.Outcomes as outcomes
use Rattle.table.proofs.Placing.{Placed, in_own, in_free, nowhere, placed}
use Rattle.table.proofs.Slots.{carried}
use Rattle.law_history.specs.History as book
use Rattle.law_history.specs.History.{Entry, newest, plan_number, caller_debt, owes_elsewhere, entry_of, decide}
use Rattle.law_history.proofs.Columns.{somebody}
use Rattle.law_history.proofs.Deciding.{book_refused, book_decides, decide_elsewhere, decide_full, decide_admitted, decide_throttled, owes_nothing}
use Rattle.law_history.proofs.Full as number_9
use Rattle.law_history.proofs.Invariant.{Related, later, own, free, admission}
use Rattle.law_history.proofs.Owing.{newest_end}
use Rattle.law_history.proofs.OwnRecord.{Verdicts, both_judge, both_12, own_within, own_verdicts, unknown_absent, unknown_owes_nothing}
use Rattle.law_history.proofs.Same.{Same, same, same_toll}

module _ {C R : Type 0} {E : Engine R} (L : Lawful E) (K : Columns C (Planned R)) (S : Stored K) (n : ℕ) where
  abbrev U : Rule Plans (Planned R)
  U = rule_of (planned E)

  -- an ask that passes the checks, at a moment that is not before the newest
  module _
      (r : Request Plans) (c : C) (h : List Entry) (past : Related E K r.query.setting.plans n (newest h) c h)
      (late : newest h ≤ r.query.moment) (pay : Payable (calls.toll (rule_of (planned E)) K r c)) where
    abbrev ps : List Plan
    ps = r.query.setting.plans

    abbrev plan : Plan
    plan = asked r.query.setting

    abbrev at : ℕ
    at = r.query.moment

    abbrev who : ℕ
    who = r.query.subscriber

    abbrev theirs : ℕ
    theirs = caller_debt r.query h

    v : Related E K ps n at c h
    v = later L K S ps n (newest h) at c h late past

    -- an admission's moment is the newest
    since :
        {d : C} → Related E K ps n at d (h ++ (entry_of r ∷ [])) →
        Related E K ps n (newest (h ++ (entry_of r ∷ []))) d (h ++ (entry_of r ∷ []))
    since {d} w = subst (λ (m : ℕ). Related E K ps n m d (h ++ (entry_of r ∷ []))) (sym (newest_end h (entry_of r) late)) w

    real : somebody who ≡ true
    real = number_9.not_empty_somebody who pay.asked.subscriber

    lent : known ps r.query.setting.number ≡ true
    lent = ok_known r.query.setting pay.asked.plan

    decides : book.acquire n r h ≡ decide n r h
    decides = book_decides n r h (subst (λ (x : Toll). request_check x ≡ 0) (same_toll E K n r c h v) (pays (calls.toll U K r c) pay))

    -- on its own record
    module _ (i : ℕ) (o : Own K r.query c i) where
      abbrev now : R
      now = current E r.query.setting at (K.row c i)

      judged :
          fault_of E r.query.setting at (K.row c i) ≡ 0 → owes_elsewhere r.query h ≡ false → E.backlog plan at now ≡ theirs →
          (eqb (plan_number who h) r.query.setting.number ≡ false → theirs ≡ 0) → (t : Bool) → E.admits plan at now r.cost ≡ t →
          Same E K n ps (calls.acquire U K r c) (book.acquire n r h)
      judged fine here agrees drained true e =
          same E K n _ _ _ _ (outcomes.admits (planned E) K r c pay i o fine e)
          (decides
          ∙ decide_admitted n r h here (number_9.not_full_own L K S n r.query c h v i o)
          (ap (λ (b : ℕ). admissible plan b r.cost) (sym agrees) ∙ sym (L.admits_iff plan at now r.cost) ∙ e))
          (ap (λ (b : ℕ). answered who (admitted plan at b r.cost)) agrees)
          (since
          (admission L K S ps n at c h v who r.query.setting.number r.cost i now (own_within L K S n r.query c h v o)
          (own (carried (K.ids c) who i o.passes)) real late lent e agrees drained))
      judged fine here agrees drained false e =
          same E K n _ _ _ _ (outcomes.waits (planned E) K r c pay i o fine e)
          (decides
          ∙ decide_throttled n r h here (number_9.not_full_own L K S n r.query c h v i o)
          (ap (λ (b : ℕ). admissible plan b r.cost) (sym agrees) ∙ sym (L.admits_iff plan at now r.cost) ∙ e))
          (ap (λ (b : ℕ). answered who (throttled plan at b r.cost)) agrees) past

      on_own : Verdicts E r.query (K.row c i) h → Same E K n ps (calls.acquire U K r c) (book.acquire n r h)
      on_own (both_judge fine here agrees drained) = judged fine here agrees drained (E.admits plan at now r.cost) refl
      on_own (both_12 e there) =
          same E K n _ _ _ _ (outcomes.faulty (planned E) K r c pay i o (ap (λ (k : ℕ). eqb k 0) e)) (decides ∙ decide_elsewhere n r h there)
          (ap (λ (k : ℕ). answered who (bare k)) e) past

    -- as a newcomer in a free slot
    module _ (i : ℕ) (u : Unknown K r.query c) (f : Vacant (rule_of (planned E)) K r.query c i) where
      none : theirs ≡ 0
      none = unknown_owes_nothing L K S n r.query c h v u

      abbrev new : R
      new = current E r.query.setting at (planned_of r.query.setting.number (E.fresh plan at))

      nothing : E.backlog plan at new ≡ theirs
      nothing = (planned_balanced L).fresh_owes_nothing r.query.setting at ∙ sym none

      within_burst : r.cost ≤ plan.burst
      within_burst = ltb-false _ _ pay.burst

      on_free : Same E K n ps (calls.acquire U K r c) (book.acquire n r h)
      on_free =
          same E K n _ _ _ _ (outcomes.admits_new (planned_balanced L) K r c pay i u f)
          (decides
          ∙ decide_admitted n r h (owes_nothing r.query h none) (number_9.not_full_free L K S n r.query c h v i f)
          (ap (λ (b : ℕ). admissible plan b r.cost) none ∙ burst_admissible plan r.cost within_burst))
          (ap (λ (b : ℕ). answered who (admitted plan at b r.cost)) nothing)
          (since
          (admission L K S ps n at c h v who r.query.setting.number r.cost i new (omega (arith, f.within, v.slots))
          (free (unknown_absent L K S n r.query c h v u) (number_9.vacated L K S n r.query c h v i f)) real late lent
          (fresh_admits (planned_balanced L) r.query.setting at r.cost within_burst) nothing (λ d. none)))

    in_slot :
        Placed (rule_of (planned E)) K r.query c (slot_for (rule_of (planned E)) K r.query c) →
        Same E K n ps (calls.acquire U K r c) (book.acquire n r h)
    in_slot (in_own i o e) = on_own i o (own_verdicts L K S n r.query c h v real o)
    in_slot (in_free i u f e) = on_free i u f
    in_slot (nowhere u f e) =
        same E K n _ _ _ _ (outcomes.full U K r c pay u f)
        (decides
        ∙ decide_full n r h (owes_nothing r.query h (unknown_owes_nothing L K S n r.query c h v u)) (number_9.full L K S n r.query c h v u f))
        refl past

    acquire_passed : Same E K n ps (calls.acquire U K r c) (book.acquire n r h)
    acquire_passed = in_slot (placed U K r.query c)

  pub acquire_step :
      (r : Request Plans) (c : C) (h : List Entry) → Related E K r.query.setting.plans n (newest h) c h →
      Same E K n r.query.setting.plans (calls.acquire (rule_of (planned E)) K r c) (book.acquire n r h)
  acquire_step r c h v = checked (request_check (calls.toll U K r c)) refl
    where
      checked :
          (k : ℕ) → request_check (calls.toll U K r c) ≡ k → Same E K n r.query.setting.plans (calls.acquire U K r c) (book.acquire n r h)
      checked zero e =
          let pay = payable (calls.toll U K r c) e in
          let late = asked_since (calls.gate U K r.query c) pay.asked in
          acquire_passed r c h v (omega (arith, late, v.latest)) pay
      checked (suc k) e =
          let some = ne_eqb (request_check (calls.toll U K r c)) 0 (λ z. omega arith) in
          let toll = same_toll E K n r c h v in
          same E K n _ _ _ _ (outcomes.refused U K r c some)
          (book_refused n r h (subst (λ (x : Toll). eqb (request_check x) 0 ≡ false) toll some))
          (ap (λ (x : Toll). answered r.query.subscriber (bare (request_check x))) toll) v
