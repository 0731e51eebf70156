-- Number 9 of the book: as many other subscribers owe, each by its own plan, as there are slots, exactly if no slot is the
-- subscriber's own and none is free. The others that owe, counted by name and counted by slot, are the same, each once.
-- Assumes nothing.
use mathlib.Core.Path.{◌≡◌, refl, sym, ap, ◌∙◌}
use mathlib.Core.Bool.{Bool, true, false, false≢true, not, ◌&&◌, ◌||◌}
use mathlib.Core.List.{List}
use Prim.Native.Nat.{ℕ, zero, suc, ◌≤◌, ◌<◌}
use native.Mathlib.Omega.{arith}
use lib.Dec.{eqb}
use lib.ListN.{length}
use borrow.Author.Tests.{eq-eqb, eqb-true, eqb-false, ne_eqb, leb-true, le-leb, not-true}
use Rattle.ticks.proofs.Tests.{both}
use Rattle.rate.specs.Engine.{Engine}
use Rattle.rate.specs.Lawful.{Lawful}
use Rattle.plans.specs.declared.planned.Planned.{Planned}
use Rattle.plans.specs.Plans.{Plans, planned, fault_of}
use Rattle.plans.proofs.Accounts.{planned_balanced, owing_own, is_possible, fault_drained, owes_own}
use Rattle.table.specs.Request.{Query}
use Rattle.table.specs.Rule.{rule_of}
use Rattle.table.specs.Slots.{Columns}
use Rattle.table.specs.Places.{Own, Unknown, Vacant, Full}
use Rattle.table.specs.Stored.{Stored}
use Rattle.table.proofs.Placing.{vacant_owes_nothing}
use Rattle.table.proofs.Slots.{carried, not_carried, carries_other}
use Rattle.law_history.specs.History.{Entry, member, names, keep, owed, owes, debtors}
use Rattle.law_history.proofs.Columns.{somebody}
use Rattle.law_history.proofs.Counting.{apart_distinct, apart_within, names_distinct, same_length, keep_member, kept, all_kept, keeps_all}
use Rattle.law_history.proofs.Invariant.{Matched, Related, id_at, ids_length, nobody_is_0, somebody_not_0}
use Rattle.law_history.proofs.Owing.{owed_unnamed}

or_cases : (a b : Bool) → (a || b) ≡ true → (a ≡ false → b ≡ true)
or_cases true b e n = absurd (false≢true (sym n))
or_cases false b e n = e

nor : (a b : Bool) → (a || b) ≡ false → (a ≡ false) × (b ≡ false)
nor true b e = (e, absurd (false≢true (sym e)))
nor false b e = (refl, e)

nand : (a b : Bool) → (a && b) ≡ false → a ≡ true → b ≡ false
nand a b e t = ap (λ (x : Bool). x && b) (sym t) ∙ e

pub positive_of : (x : ℕ) → (x ≡ 0 → ⊥) → 1 ≤ x
positive_of zero n = absurd (n refl)
positive_of (suc x) n = omega arith

pub not_empty_somebody : (x : ℕ) → eqb x 0 ≡ false → somebody x ≡ true
unfolding somebody
not_empty_somebody x e = ap (λ (t : Bool). not t) e

-- another subscriber that owes
pub record Debtor (q : Query Plans) (h : List Entry) (x : ℕ) : Type 0 where
  pub other : x ≡ q.subscriber → ⊥
  pub positive : 1 ≤ owed q.setting.plans q.moment x h

module _ (q : Query Plans) (h : List Entry) where
  debtor : (x : ℕ) → owes q h x ≡ true → Debtor q h x
  unfolding owes
  debtor x e =
      let two = both _ _ e in
      record { other = eqb-false _ _ (not-true _ two.0); positive = leb-true _ _ two.1 }

  is_debtor : (x : ℕ) → Debtor q h x → owes q h x ≡ true
  unfolding owes
  is_debtor x d = rw (ne_eqb x q.subscriber d.other, le-leb 1 (owed q.setting.plans q.moment x h) d.positive)

-- a record that matches a subscriber's run owes nothing by its own plan exactly if the account finds no fault and no backlog
module _
    {R : Type 0} {E : Engine R} (L : Lawful E) (p : Plans) (at : ℕ) (x : Planned R) (who : ℕ) (h : List Entry)
    (m : Matched E p.plans at x who h) where
  drained_owes_nothing : (eqb (fault_of E p at x) 0 && eqb ((planned E).backlog p at x) 0) ≡ true → owed p.plans at who h ≡ 0
  drained_owes_nothing e =
      let two = both (eqb (fault_of E p at x) 0) (eqb ((planned E).backlog p at x) 0) e in
      sym m.agree ∙ sym (owes_own L p x at (eqb-true _ _ two.0)) ∙ eqb-true _ _ two.1

  not_drained_owes : (eqb (fault_of E p at x) 0 && eqb ((planned E).backlog p at x) 0) ≡ false → 1 ≤ owed p.plans at who h
  not_drained_owes e = positive_of (owed p.plans at who h) some
    where
      some : owed p.plans at who h ≡ 0 → ⊥
      some z =
          let none = m.agree ∙ z in
          let fine = fault_drained E p x at (is_possible E p x at m.lent m.sound) (owing_own E p x at ∙ none) in
          eqb-false _ _ (nand _ _ e (eq-eqb _ _ fine)) (owes_own L p x at fine ∙ none)

module _
    {C R : Type 0} {E : Engine R} (L : Lawful E) (K : Columns C (Planned R)) (S : Stored K) (n : ℕ) (q : Query Plans) (c : C) (h : List Entry)
    (v : Related E K q.setting.plans n q.moment c h) where
  occupied : (x : ℕ) → owes q h x ≡ true → somebody x ≡ true
  occupied x e = by (somebody x) refl
    where
      by : (t : Bool) → somebody x ≡ t → somebody x ≡ true
      by true t = t
      by false t =
          absurd (omega (arith, (debtor q h x e).positive, ap (λ (k : ℕ). owed q.setting.plans q.moment k h) (nobody_is_0 x t) ∙ v.nobody))

  -- whoever owes has a slot, and a name in the history
  has_slot : (x : ℕ) → owes q h x ≡ true → member x (K.ids c) ≡ true
  has_slot x e = by (member x (K.ids c)) refl
    where
      by : (t : Bool) → member x (K.ids c) ≡ t → member x (K.ids c) ≡ true
      by true t = t
      by false t = absurd (omega (arith, (debtor q h x e).positive, v.strangers x t))

  has_name : (x : ℕ) → owes q h x ≡ true → member x (names h) ≡ true
  has_name x e = by (member x (names h)) refl
    where
      by : (t : Bool) → member x (names h) ≡ t → member x (names h) ≡ true
      by true t = t
      by false t = absurd (omega (arith, (debtor q h x e).positive, owed_unnamed q.setting.plans q.moment x h t))

  counted : debtors q h ≡ length (keep (owes q h) (K.ids c))
  unfolding debtors
  counted =
      same_length (keep (owes q h) (names h)) (keep (owes q h) (K.ids c)) (names_distinct (owes q h) h)
      (apart_distinct (owes q h) (K.ids c) (apart_within (owes q h) somebody (K.ids c) occupied v.apart))
      (λ z m.
      let k = kept (owes q h) z (names h) m in
      keep_member (owes q h) z (K.ids c) k.passes (has_slot z k.passes))
      (λ z m.
      let k = kept (owes q h) z (K.ids c) m in
      keep_member (owes q h) z (names h) k.passes (has_name z k.passes))

  long : length (K.ids c) ≡ n
  long = ids_length L K S q.setting.plans n q.moment c h v

  every_slot : debtors q h ≡ n → (i : ℕ) → i < n → Debtor q h (id_at K c i)
  every_slot e i w = debtor q h (id_at K c i) (all_kept (owes q h) (K.ids c) (sym counted ∙ e ∙ sym long) i (omega (arith, long)))

  -- with a slot of its own it is not full
  pub not_full_own : (i : ℕ) → Own K q c i → debtors q h ≡ n → ⊥
  not_full_own i o e = (every_slot e i (omega (arith, o.within, v.slots))).other (carried (K.ids c) q.subscriber i o.passes)

  -- a free slot that is not empty owes nothing
  pub vacated :
      (i : ℕ) → Vacant (rule_of (planned E)) K q c i → somebody (id_at K c i) ≡ true → owed q.setting.plans q.moment (id_at K c i) h ≡ 0
  vacated i f s =
      drained_owes_nothing L q.setting q.moment (K.row c i) (id_at K c i) h (v.matched i (omega (arith, f.within, v.slots)) s)
      (or_cases _ _ (sym (vacant_owes_nothing (planned_balanced L) K q c i) ∙ f.passes) (carries_other (K.ids c) 0 i (somebody_not_0 (id_at K c i) s)))

  -- with a free slot it is not full
  pub not_full_free : (i : ℕ) → Vacant (rule_of (planned E)) K q c i → debtors q h ≡ n → ⊥
  not_full_free i f e =
      let d = every_slot e i (omega (arith, f.within, v.slots)) in
      omega (arith, d.positive, vacated i f (occupied (id_at K c i) (is_debtor q h (id_at K c i) d)))

  -- without either it is
  pub full : Unknown K q c → Full (rule_of (planned E)) K q c → debtors q h ≡ n
  full u f =
      counted ∙ keeps_all (owes q h) (K.ids c) (λ i w. is_debtor q h (id_at K c i) (owing i (omega (arith, long)))) ∙ long
    where
      owing : (i : ℕ) → i < n → Debtor q h (id_at K c i)
      owing i w =
          let taken = nor _ _ (sym (vacant_owes_nothing (planned_balanced L) K q c i) ∙ f i (omega (arith, v.slots))) in
          let s = not_empty_somebody (id_at K c i) (ne_eqb _ _ (not_carried (K.ids c) 0 i taken.0)) in
          record {
            other = not_carried (K.ids c) q.subscriber i (u i (omega (arith, v.slots)));
            positive = not_drained_owes L q.setting q.moment (K.row c i) (id_at K c i) h (v.matched i w s) taken.1;
          }
