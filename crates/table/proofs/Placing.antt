-- The slot of an ask is the lowest that carries the subscriber's number, or without one the lowest free slot, or there is
-- none; and only an admission writes, into that slot.
-- Assumes nothing.
use mathlib.Core.Path.{◌≡◌, refl, sym, ap, subst, ◌∙◌}
use mathlib.Core.Bool.{Bool, true, false, ◌&&◌, ◌||◌}
use Prim.Native.Nat.{ℕ, ◌<◌}
use lib.Dec.{eqb}
use borrow.Author.Tests.{eqb-true}
use Rattle.rate.specs.Decision.{Verdict, bare}
use Rattle.rate.specs.Account.{Account, Judged, guard, settled}
use Rattle.rate.specs.Balanced.{Balanced}
use Rattle.rate.proofs.Answers.{bare_number}
use Rattle.rate.proofs.Cases.{guard_0, guard_not_0}
use Rattle.std.specs.Prelude.{Option}
use Rattle.std.specs.Prelude.{Some, None}
use Rattle.table.specs.Request.{Query, Request}
use Rattle.table.specs.Checks.{request_check}
use Rattle.table.specs.Rule.{Rule, rule_of}
use Rattle.table.specs.Passed.{Payable}
use Rattle.table.specs.Places.{Own, Unknown, Vacant, Full, Taken, kept, taken}
use Rattle.table.specs.Slots.{Columns, seek, carries, own, vacant, lowest_free}
use Rattle.table.specs.Calls.{Slot, none, at, Ruling, keep, write, ruled, newcomer, slot_from, slot_for, judge_in, judge_call, toll}
use Rattle.table.proofs.Cases.{ruled_writes, ruled_keeps}
use Rattle.table.proofs.Checks.{payable}
use Rattle.table.proofs.Seek.{Sought, sought, seek_at, seek_nowhere}

module _ {C P R : Type 0} (K : Columns C R) (q : Query P) (c : C) where
  -- the own slot is the lowest that carries the number, or there is none
  pub own_at : {i : ℕ} → Own K q c i → own K q.subscriber c ≡ Some i
  unfolding own
  own_at o = seek_at _ _ _ o

  pub own_nowhere : Unknown K q c → own K q.subscriber c ≡ None
  unfolding own
  own_nowhere u = seek_nowhere _ _ u

-- a slot is free if it is empty or owes nothing
pub vacant_owes_nothing :
    {C P R : Type 0} {A : Account P R} → Balanced A → (K : Columns C R) (q : Query P) (c : C) (i : ℕ) →
    vacant (rule_of A) K q.setting q.moment c i
    ≡ (carries (K.ids c) 0 i
    || (eqb (A.fault q.setting q.moment (K.row c i)) 0 && eqb (A.backlog q.setting q.moment (K.row c i)) 0))
unfolding vacant
vacant_owes_nothing L K q c i = ap (λ (t : Bool). carries (K.ids c) 0 i || t) (L.free_iff q.setting q.moment (K.row c i))

module _ {C P R : Type 0} (U : Rule P R) (K : Columns C R) (q : Query P) (c : C) where
  pub data Placed (s : Slot R) : Type 0 where
    in_own : (i : ℕ) → Own K q c i → s ≡ at i (K.row c i) → Placed s
    in_free : (i : ℕ) → Unknown K q c → Vacant U K q c i → s ≡ at i (U.fresh q.setting q.moment) → Placed s
    nowhere : Unknown K q c → Full U K q c → s ≡ none → Placed s

  placed_new : (p : Option ℕ) → Unknown K q c → Sought (vacant U K q.setting q.moment c) (K.slots c) p → Placed (newcomer U q p)
  unfolding newcomer
  placed_new None unknown full = nowhere unknown full refl
  placed_new (Some i) unknown free = in_free i unknown free refl

  placed_from : (p : Option ℕ) → Sought (carries (K.ids c) q.subscriber) (K.slots c) p → Placed (slot_from U K q c p)
  unfolding slot_from lowest_free
  placed_from None unknown = placed_new (seek (vacant U K q.setting q.moment c) (K.slots c)) unknown (sought (vacant U K q.setting q.moment c) (K.slots c))
  placed_from (Some i) found = in_own i found refl

  pub placed : Placed (slot_for U K q c)
  unfolding slot_for own
  placed =
      placed_from (seek (carries (K.ids c) q.subscriber) (K.slots c)) (sought (carries (K.ids c) q.subscriber) (K.slots c))

  pub taken_within : {i : ℕ} → Taken U K q c i → i < K.slots c
  taken_within (kept own) = own.within
  taken_within (taken unknown free) = free.within

-- what a ruling writes: nothing unless its number is 0, and then into the slot that it takes
module _ {C P R : Type 0} (U : Rule P R) (K : Columns C R) (r : Request P) (c : C) where
  pub record Written (v : Verdict) (i : ℕ) : Type 0 where
    pub number : v.number ≡ 0
    pub place : Taken U K r.query c i

  abbrev pub Effect : Ruling R → Type 0
  Effect (keep v) = eqb v.number 0 ≡ false
  Effect (write v i held) = Written v i

  effect_ruled : (i : ℕ) (j : Judged R) → Taken U K r.query c i → Effect (ruled i (settled j))
  effect_ruled i j t = by (eqb j.verdict.number 0) refl
    where
      by : (b : Bool) → eqb j.verdict.number 0 ≡ b → Effect (ruled i (settled j))
      by true e = subst (λ (x : Ruling R). Effect x) (sym (ruled_writes i j e)) (record { number = eqb-true _ _ e; place = t })
      by false e = subst (λ (x : Ruling R). Effect x) (sym (ruled_keeps i j e)) e

  effect_in : (s : Slot R) → Placed U K r.query c s → Effect (judge_in U r s)
  unfolding judge_in
  effect_in s (in_own i own e) = rw e (effect_ruled i (U.judge r.query.setting r.query.moment (K.row c i) r.cost) (kept own))
  effect_in s (in_free i unknown free e) =
      rw e (effect_ruled i (U.judge r.query.setting r.query.moment (U.fresh r.query.setting r.query.moment) r.cost) (taken unknown free))
  effect_in s (nowhere unknown full e) = rw e (ap (λ (n : ℕ). eqb n 0) (bare_number 9))

  effect_guard : (n : ℕ) (x : Ruling R) → Effect x → Effect (guard (λ n. keep (bare n)) n x)
  effect_guard n x h = by (eqb n 0) refl
    where
      by : (b : Bool) → eqb n 0 ≡ b → Effect (guard (λ n. keep (bare n)) n x)
      by true e = subst (λ (x : Ruling R). Effect x) (sym (guard_0 (λ n. keep (bare n)) n x (eqb-true n 0 e))) h
      by false e =
          subst (λ (x : Ruling R). Effect x) (sym (guard_not_0 (λ n. keep (bare n)) n x e)) (ap (λ (n : ℕ). eqb n 0) (bare_number n) ∙ e)

  pub effect : Effect (judge_call U K r c)
  unfolding judge_call
  effect = effect_guard (request_check (toll U K r c)) (judge_in U r (slot_for U K r.query c)) (effect_in (slot_for U K r.query c) (placed U K r.query c))

  -- so what is written lies within the columns
  pub write_within : {v : Verdict} {i : ℕ} {held : R} → judge_call U K r c ≡ write v i held → i < K.slots c
  write_within e = taken_within U K r.query c (subst (λ (x : Ruling R). Effect x) e effect).place

  -- .. and only after all checks have passed
  abbrev Writes : Ruling R → Type 0
  Writes (keep v) = ⊥
  Writes (write v i held) = Unit {0}

  pub write_payable : {v : Verdict} {i : ℕ} {held : R} → judge_call U K r c ≡ write v i held → Payable (toll U K r c)
  unfolding judge_call
  write_payable e = by (eqb (request_check (toll U K r c)) 0) refl
    where
      by : (b : Bool) → eqb (request_check (toll U K r c)) 0 ≡ b → Payable (toll U K r c)
      by true t = payable (toll U K r c) (eqb-true _ _ t)
      by false t =
          absurd (subst (λ (x : Ruling R). Writes x)
          (sym e ∙ guard_not_0 (λ n. keep (bare n)) (request_check (toll U K r c)) (judge_in U r (slot_for U K r.query c)) t) tt)
