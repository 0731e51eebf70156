-- A subscriber's own record and its run in the history: both are judged, by the plan asked for, and owe the same; or both get 12. Without
-- a record the history owes nothing either.
-- Assumes nothing.
use mathlib.Core.Path.{◌≡◌, refl, sym, ap, subst, ◌∙◌}
use mathlib.Core.Bool.{Bool, true, false, false≢true}
use mathlib.Core.List.{List}
use Prim.Native.Nat.{ℕ, ◌<◌}
use native.Mathlib.Omega.{arith}
use lib.Dec.{eqb}
use borrow.Author.Tests.{eqb-true, eqb-false}
use Rattle.rate.specs.Engine.{Engine}
use Rattle.rate.specs.Lawful.{Lawful}
use Rattle.plans.specs.declared.planned.Planned.{Planned}
use Rattle.plans.specs.Plans.{Plans, planned, owing, possible, fault_of}
use Rattle.plans.proofs.Accounts.{owing_own, is_possible, fault_same, fault_drained, fault_12, owes_own}
use Rattle.table.specs.Request.{Query}
use Rattle.table.specs.Slots.{Columns}
use Rattle.table.specs.Places.{Own, Unknown}
use Rattle.table.specs.Stored.{Stored}
use Rattle.table.proofs.Slots.{carried, not_carried}
use Rattle.law_history.specs.History.{Entry, member, plan_number, caller_debt, owes_elsewhere}
use Rattle.law_history.proofs.Columns.{somebody}
use Rattle.law_history.proofs.Counting.{member_place}
use Rattle.law_history.proofs.Deciding.{is_elsewhere, same_plan, owes_nothing}
use Rattle.law_history.proofs.Full.{positive_of}
use Rattle.law_history.proofs.Invariant.{Matched, Related, id_at, ids_length}

-- what the account says of a record, and the history of the subscriber's run
pub data Verdicts {R : Type 0} (E : Engine R) (q : Query Plans) (x : Planned R) (h : List Entry) : Type 0 where
  both_judge :
      fault_of E q.setting q.moment x ≡ 0 → owes_elsewhere q h ≡ false → (planned E).backlog q.setting q.moment x ≡ caller_debt q h →
      (eqb (plan_number q.subscriber h) q.setting.number ≡ false → caller_debt q h ≡ 0) → Verdicts E q x h
  both_12 : fault_of E q.setting q.moment x ≡ 12 → owes_elsewhere q h ≡ true → Verdicts E q x h

-- they are alike if the two match
pub verdicts :
    {R : Type 0} {E : Engine R} → Lawful E → (q : Query Plans) (x : Planned R) (h : List Entry) →
    Matched E q.setting.plans q.moment x q.subscriber h → Verdicts E q x h
verdicts {E = E} L q x h m =
    by (eqb x.number q.setting.number) refl (eqb (owing E q.setting q.moment x) 0) refl
  where
    can : possible E q.setting q.moment x ≡ true
    can = is_possible E q.setting x q.moment m.lent m.sound

    named : eqb (plan_number q.subscriber h) q.setting.number ≡ eqb x.number q.setting.number
    named = ap (λ (k : ℕ). eqb k q.setting.number) (sym m.number)

    owing_debt : owing E q.setting q.moment x ≡ caller_debt q h
    owing_debt = owing_own E q.setting x q.moment ∙ m.agree

    agrees : fault_of E q.setting q.moment x ≡ 0 → (planned E).backlog q.setting q.moment x ≡ caller_debt q h
    agrees fine = owes_own L q.setting x q.moment fine ∙ m.agree

    by :
        (t : Bool) → eqb x.number q.setting.number ≡ t → (z : Bool) → eqb (owing E q.setting q.moment x) 0 ≡ z →
        Verdicts E q x h
    by true t z ez =
        let fine = fault_same E q.setting x q.moment can (eqb-true _ _ t) in
        both_judge fine (same_plan q h (eqb-true _ _ (named ∙ t))) (agrees fine) (λ d. absurd (false≢true (sym d ∙ named ∙ t)))
    by false t true ez =
        let fine = fault_drained E q.setting x q.moment can (eqb-true _ _ ez) in
        let none = sym owing_debt ∙ eqb-true _ _ ez in
        both_judge fine (owes_nothing q h none) (agrees fine) (λ d. none)
    by false t false ez =
        let some = positive_of (owing E q.setting q.moment x) (eqb-false _ _ ez) in
        both_12 (fault_12 E q.setting x q.moment can t ez) (is_elsewhere q h (omega (arith, some, owing_debt)) (eqb-false _ _ (named ∙ t)))

module _
    {C R : Type 0} {E : Engine R} (L : Lawful E) (K : Columns C (Planned R)) (S : Stored K) (n : ℕ) (q : Query Plans) (c : C) (h : List Entry)
    (v : Related E K q.setting.plans n q.moment c h) where
  pub own_within : {i : ℕ} → Own K q c i → i < n
  own_within o = omega (arith, o.within, v.slots)

  pub own_verdicts : {i : ℕ} → somebody q.subscriber ≡ true → Own K q c i → Verdicts E q (K.row c i) h
  own_verdicts {i} real o =
      let mine : id_at K c i ≡ q.subscriber = carried (K.ids c) q.subscriber i o.passes in
      verdicts L q (K.row c i) h
      (subst (λ (x : ℕ). Matched E q.setting.plans q.moment (K.row c i) x h) mine
      (v.matched i (own_within o) (ap (λ (x : ℕ). somebody x) mine ∙ real)))

  -- a subscriber without a slot
  pub unknown_absent : Unknown K q c → member q.subscriber (K.ids c) ≡ false
  unknown_absent u = by (member q.subscriber (K.ids c)) refl
    where
      by : (t : Bool) → member q.subscriber (K.ids c) ≡ t → member q.subscriber (K.ids c) ≡ false
      by true t =
          let s = member_place q.subscriber (K.ids c) t in
          let within : s.0 < K.slots c = omega (arith, s.1.0, ids_length L K S q.setting.plans n q.moment c h v, v.slots) in
          absurd (not_carried (K.ids c) q.subscriber s.0 (u s.0 within) s.1.1)
      by false t = t

  pub unknown_owes_nothing : Unknown K q c → caller_debt q h ≡ 0
  unknown_owes_nothing u = v.strangers q.subscriber (unknown_absent u)
