-- What an acquire writes: a number other than 0 leaves the columns as they were; number 0 overwrites one slot whole, the
-- subscriber's own or else the lowest free one, leaves every other slot as it was, and makes its moment the newest.
-- Assumes nothing.
use mathlib.Core.Path.{◌≡◌, refl, sym, ap, ◌∙◌}
use mathlib.Core.Bool.{true, false, false≢true}
use Prim.Native.Nat.{ℕ, ◌<◌}
use native.Mathlib.Omega.{arith}
use lib.Dec.{eqb}
use lib.ListN.{get_or}
use lib.Seq.{get_or-set_same, get_or-set_other}
use borrow.Author.Tests.{eq-eqb}
use mathlib.Core.List.{List}
use Rattle.rate.proofs.Answers.{answered_number}
use Rattle.table.specs.Request.{Request}
use Rattle.table.specs.Rule.{Rule}
use Rattle.table.specs.Slots.{Columns, carries}
use Rattle.table.specs.Calls.{Step, Ruling, keep, write, judge_call, acquire}
use Rattle.table.specs.Places.{Admission}
use Rattle.table.specs.Stored.{Stored}
use Rattle.table.proofs.Outcomes.{acquire_keeps, acquire_writes}
use Rattle.table.proofs.Slots.{carries_own}
use Rattle.table.proofs.Placing.{taken_within, Effect, effect}

module _ {C P R : Type 0} (U : Rule P R) (K : Columns C R) (r : Request P) (c : C) where
  denied :
      (x : Ruling R) → judge_call U K r c ≡ x → Effect U K r c x → eqb (acquire U K r c).answer.number 0 ≡ false →
      (acquire U K r c).after ≡ c
  denied (keep v) e h n = ap (λ (s : Step C). s.after) (acquire_keeps U K r c e)
  denied (write v i held) e h n =
      let number = ap (λ (s : Step C). s.answer.number) (acquire_writes U K r c e) ∙ answered_number r.query.subscriber v in
      absurd (false≢true (sym n ∙ eq-eqb _ _ (number ∙ h.number)))

  pub denied_changes_nothing : eqb (acquire U K r c).answer.number 0 ≡ false → (acquire U K r c).after ≡ c
  denied_changes_nothing = denied (judge_call U K r c) refl (effect U K r c)

  admission : (x : Ruling R) → judge_call U K r c ≡ x → Effect U K r c x → (acquire U K r c).answer.number ≡ 0 → Admission U K r c
  admission (keep v) e h n =
      let number = ap (λ (s : Step C). s.answer.number) (acquire_keeps U K r c e) ∙ answered_number r.query.subscriber v in
      absurd (false≢true (sym h ∙ eq-eqb _ _ (sym number ∙ n)))
  admission (write v i held) e h n =
      record { place = i; held = held; takes = h.place; after = ap (λ (s : Step C). s.after) (acquire_writes U K r c e) }

  pub admission_writes_one : (acquire U K r c).answer.number ≡ 0 → Admission U K r c
  admission_writes_one = admission (judge_call U K r c) refl (effect U K r c)

  module _ (S : Stored K) (a : Admission U K r c) where
    -- the slot that was taken holds the subscriber and the new record
    pub taken_slot :
        (get_or (K.ids (acquire U K r c).after) a.place 0 ≡ r.query.subscriber)
        × (K.row (acquire U K r c).after a.place ≡ a.held)
    taken_slot =
        let within : a.place < K.slots c = taken_within U K r.query c a.takes in (
          ap (λ (d : C). get_or (K.ids d) a.place 0) a.after
              ∙ ap (λ (l : List ℕ). get_or l a.place 0) (S.ids_put c a.place r.query.subscriber r.query.moment a.held)
              ∙ get_or-set_same (K.ids c) a.place r.query.subscriber 0 (omega (arith, S.ids_length c (omega arith))),
          ap (λ (d : C). K.row d a.place) a.after ∙ S.row_same c a.place r.query.subscriber r.query.moment a.held within,
        )

    -- it lies within the columns, and carries the subscriber's number
    pub taken_place :
        (a.place < K.slots (acquire U K r c).after)
        × (carries (K.ids (acquire U K r c).after) r.query.subscriber a.place ≡ true)
    taken_place =
        let within = taken_within U K r.query c a.takes in
        let slots =
        ap (λ (d : C). K.slots d) a.after ∙ S.slots_put c a.place r.query.subscriber r.query.moment a.held in
        (omega arith, carries_own _ _ _ taken_slot.0)

    -- its moment is the newest
    pub newest_taken : K.newest (acquire U K r c).after ≡ r.query.moment
    newest_taken =
        ap (λ (d : C). K.newest d) a.after ∙ S.newest_put c a.place r.query.subscriber r.query.moment a.held

    -- every other slot is as it was
    pub other_slots :
        (j : ℕ) → (j ≡ a.place → ⊥) →
        (get_or (K.ids (acquire U K r c).after) j 0 ≡ get_or (K.ids c) j 0) × (K.row (acquire U K r c).after j ≡ K.row c j)
    other_slots j h = (
      ap (λ (d : C). get_or (K.ids d) j 0) a.after
          ∙ ap (λ (l : List ℕ). get_or l j 0) (S.ids_put c a.place r.query.subscriber r.query.moment a.held)
          ∙ get_or-set_other (K.ids c) a.place j r.query.subscriber 0 h,
      ap (λ (d : C). K.row d j) a.after ∙ S.row_other c a.place j r.query.subscriber r.query.moment a.held h,
    )
