-- How a table and a history belong together: both have the same newest moment; and at some moment each occupied slot holds a
-- record of the plan of its subscriber's run, sound by it, that owes what the history says; no subscriber has two slots, and whoever
-- has none owes nothing. It stays so as time passes, it holds of a cleared table and the empty history, and an admission keeps it.
-- Assumes nothing.
use mathlib.Core.Path.{◌≡◌, refl, sym, ap, ap₂, subst, ◌∙◌}
use mathlib.Core.Bool.{Bool, true, false, false≢true}
use mathlib.Core.List.{List, [], ◌∷◌, ◌++◌}
use Prim.Native.Nat.{ℕ, ◌+◌, ◌-◌, ◌≤◌, ◌<◌}
use native.Mathlib.Decide.{ℕ_discrete}
use native.Mathlib.Omega.{arith}
use lib.Dec.{eqb}
use lib.ListN.{length, get_or, set}
use lib.Seq.{get_or-set_same, get_or-set_other, set-get_or}
use borrow.Author.Tests.{eqb-true, eqb-false, not-true, not-false}
use Rattle.ticks.specs.declared.plan.Plan.{Plan}
use Rattle.ticks.specs.Grains.{ticks_in, price}
use Rattle.rate.specs.Engine.{Engine}
use Rattle.rate.specs.Lawful.{Lawful}
use Rattle.plans.specs.declared.planned.Planned.{Planned}
use Rattle.plans.specs.Plans.{planned_of, known, plan_at}
use Rattle.table.specs.Checks.{slots_ok}
use Rattle.table.specs.Slots.{Columns}
use Rattle.table.specs.Stored.{Stored}
use Rattle.table.proofs.Checks.{slots_least}
use Rattle.law_calls.proofs.Cleared.{zeros_empty}
use Rattle.law_history.specs.History.{Entry, newest, member, plan_number, owed}
use Rattle.law_history.proofs.Columns.{somebody, set_apart, gone_elsewhere, gone_other, one_place, zeros_apart}
use Rattle.law_history.proofs.Counting.{Apart, member_place, place_member}
use Rattle.law_history.proofs.Latest.{number_own, number_others}
use Rattle.law_history.proofs.Owing.{owed_drains, owed_spends, owed_others, owed_none, newest_none, newest_end}

pub nobody_is_0 : (x : ℕ) → somebody x ≡ false → x ≡ 0
unfolding somebody
nobody_is_0 x e = eqb-true x 0 (not-false _ e)

pub somebody_not_0 : (x : ℕ) → somebody x ≡ true → x ≡ 0 → ⊥
unfolding somebody
somebody_not_0 x e = eqb-false x 0 (not-true _ e)

-- the number in a slot
abbrev pub id_at : {C R : Type 0} → Columns C R → C → ℕ → ℕ
id_at K c i = get_or (K.ids c) i 0

-- a record and its subscriber's run: of the same plan, which is lent; sound by it; and owing the same
pub record Matched {R : Type 0} (E : Engine R) (ps : List Plan) (at : ℕ) (x : Planned R) (who : ℕ) (h : List Entry) : Type 0 where
  pub lent : known ps x.number ≡ true
  pub number : x.number ≡ plan_number who h
  pub sound : E.sound (plan_at ps x.number) at x.held ≡ true
  pub agree : E.backlog (plan_at ps x.number) at x.held ≡ owed ps at who h

pub record Related
    {C R : Type 0} (E : Engine R) (K : Columns C (Planned R)) (ps : List Plan) (n at : ℕ) (c : C) (h : List Entry) : Type 0 where
  pub slots : K.slots c ≡ n
  pub table : slots_ok n ≡ true
  pub latest : K.newest c ≡ newest h
  pub apart : Apart somebody (K.ids c)
  pub matched : (i : ℕ) → i < n → somebody (id_at K c i) ≡ true → Matched E ps at (K.row c i) (id_at K c i) h
  pub nobody : owed ps at 0 h ≡ 0
  pub strangers : (who : ℕ) → member who (K.ids c) ≡ false → owed ps at who h ≡ 0

module _ {C R : Type 0} {E : Engine R} (L : Lawful E) (K : Columns C (Planned R)) (S : Stored K) (ps : List Plan) (n : ℕ) where
  -- both drain alike
  pub later : (l k : ℕ) (c : C) (h : List Entry) → l ≤ k → Related E K ps n l c h → Related E K ps n k c h
  later l k c h le v =
      record {
        slots = v.slots;
        table = v.table;
        latest = v.latest;
        apart = v.apart;
        matched = λ i w s. drained (K.row c i) (id_at K c i) (v.matched i w s);
        nobody = omega (arith, v.nobody, owed_drains ps l k le 0 h);
        strangers = λ who m. omega (arith, v.strangers who m, owed_drains ps l k le who h);
      }
    where
      drained : (x : Planned R) (who : ℕ) → Matched E ps l x who h → Matched E ps k x who h
      drained x who m =
          record {
            lent = m.lent;
            number = m.number;
            sound = L.stays_sound (plan_at ps x.number) l k x.held le m.sound;
            agree =
                L.drains (plan_at ps x.number) l k x.held le m.sound
                ∙ ap₂ (λ (b j : ℕ). b - ticks_in (plan_at ps j) (k - l)) m.agree m.number
                ∙ sym (owed_drains ps l k le who h);
          }

  -- a cleared table and the empty history
  pub cleared : (at : ℕ) (c : C) → K.slots c ≡ n → slots_ok n ≡ true → Related E K ps n at (K.zeros c) []
  unfolding somebody
  cleared at c s t =
      let table = subst (λ (k : ℕ). slots_ok k ≡ true) (sym s) t in
      let empty : (i : ℕ) → i < n → somebody (id_at K (K.zeros c) i) ≡ true → ⊥ =
      λ i w o. false≢true (ap (λ (x : ℕ). somebody x) (sym (zeros_empty K c S table i (omega (arith, s)))) ∙ o) in
      record {
        slots = S.slots_zeros c ∙ s;
        table = t;
        latest = S.newest_zeros c ∙ sym newest_none;
        apart = subst (λ (l : List ℕ). Apart somebody l) (sym (S.ids_zeros c)) (zeros_apart (length (K.ids c)));
        matched = λ i w o. absurd (empty i w o);
        nobody = owed_none ps at 0;
        strangers = λ who m. owed_none ps at who;
      }

  module _ (at : ℕ) (c : C) (h : List Entry) (v : Related E K ps n at c h) where
    -- the ids column is as long as the table
    pub ids_length : length (K.ids c) ≡ n
    ids_length = S.ids_length c (omega (arith, slots_least n v.table, v.slots)) ∙ v.slots

    -- the slot that an admission takes: the subscriber's own, or one that owes nothing if it has none
    pub data Free (who i : ℕ) : Type 0 where
      own : id_at K c i ≡ who → Free who i
      free :
          member who (K.ids c) ≡ false → (somebody (id_at K c i) ≡ true → owed ps at (id_at K c i) h ≡ 0) → Free who i

    module _ (who k cost i : ℕ) (held : R) (w : i < n) (f : Free who i) (real : somebody who ≡ true) where
      abbrev entry : Entry
      entry = record { subscriber = who; moment = at; plan = k; cost = cost }

      abbrev spent : Planned R
      spent = planned_of k (E.spend (plan_at ps k) at held cost)

      abbrev put : C
      put = K.put c i who at spent

      in_ids : i < length (K.ids c)
      in_ids = omega (arith, ids_length)

      id_same : id_at K put i ≡ who
      id_same = ap (λ (l : List ℕ). get_or l i 0) (S.ids_put c i who at spent) ∙ get_or-set_same (K.ids c) i who 0 in_ids

      id_other : (j : ℕ) → (j ≡ i → ⊥) → id_at K put j ≡ id_at K c j
      id_other j o = ap (λ (l : List ℕ). get_or l j 0) (S.ids_put c i who at spent) ∙ get_or-set_other (K.ids c) i j who 0 o

      apart_set : Free who i → Apart somebody (set (K.ids c) i who)
      apart_set (own e) =
          subst (λ (l : List ℕ). Apart somebody l)
          (sym (ap (λ (x : ℕ). set (K.ids c) i x) (sym e) ∙ set-get_or (K.ids c) i 0)) v.apart
      apart_set (free m b) = set_apart somebody who (K.ids c) i m v.apart

      -- no other slot is the subscriber's
      not_who : Free who i → (j : ℕ) → j < n → (j ≡ i → ⊥) → who ≡ id_at K c j → ⊥
      not_who (own e) j k o q = o (one_place somebody (K.ids c) j i who v.apart real (omega (arith, ids_length)) in_ids (sym q) e)
      not_who (free m b) j k o q = false≢true (sym m ∙ place_member who (K.ids c) j (omega (arith, ids_length)) (sym q))

      -- whoever lost its slot owes nothing
      pushed_out : (x : ℕ) → Free who i → (who ≡ x → ⊥) → id_at K c i ≡ x → owed ps at x h ≡ 0
      pushed_out x (own e) o q = absurd (o (sym e ∙ q))
      pushed_out x (free m b) o q = by (somebody x) refl
        where
          by : (t : Bool) → somebody x ≡ t → owed ps at x h ≡ 0
          by true t = ap (λ (k : ℕ). owed ps at k h) (sym q) ∙ b (ap (λ (k : ℕ). somebody k) q ∙ t)
          by false t = ap (λ (k : ℕ). owed ps at k h) (nobody_is_0 x t) ∙ v.nobody

      gone : (x : ℕ) → (who ≡ x → ⊥) → member x (set (K.ids c) i who) ≡ false → owed ps at x h ≡ 0
      gone x o m = by (member x (K.ids c)) refl
        where
          here : (j : ℕ) → j < length (K.ids c) → get_or (K.ids c) j 0 ≡ x → Dec (j ≡ i) → owed ps at x h ≡ 0
          here j k q (yes e) = pushed_out x f o (ap (λ (k : ℕ). get_or (K.ids c) k 0) (sym e) ∙ q)
          here j k q (no d) = absurd (gone_elsewhere x who (K.ids c) i j m k d q)

          by : (t : Bool) → member x (K.ids c) ≡ t → owed ps at x h ≡ 0
          by true t = let s = member_place x (K.ids c) t in here s.0 s.1.0 s.1.1 (ℕ_discrete s.0 i)
          by false t = v.strangers x t

      -- an admission that is not before the newest moment keeps it, under the plan of the run so far or with nothing owed
      pub admission :
          newest h ≤ at → known ps k ≡ true → E.admits (plan_at ps k) at held cost ≡ true →
          E.backlog (plan_at ps k) at held ≡ owed ps at who h → (eqb (plan_number who h) k ≡ false → owed ps at who h ≡ 0) →
          Related E K ps n at (K.put c i who at (planned_of k (E.spend (plan_at ps k) at held cost)))
          (h ++ (record { subscriber = who; moment = at; plan = k; cost = cost } ∷ []))
      admission late lent a b drained =
          record {
            slots = S.slots_put c i who at spent ∙ v.slots;
            table = v.table;
            latest = S.newest_put c i who at spent ∙ sym (newest_end h entry late);
            apart = subst (λ (l : List ℕ). Apart somebody l) (sym (S.ids_put c i who at spent)) (apart_set f);
            matched = λ j k o. matched_at j k o (ℕ_discrete j i);
            nobody = owed_others ps at h entry 0 (somebody_not_0 who real) ∙ v.nobody;
            strangers = λ x m.
                let absent = ap (λ (l : List ℕ). member x l) (sym (S.ids_put c i who at spent)) ∙ m in
                let other = gone_other x who (K.ids c) i absent in_ids in
                owed_others ps at h entry x other ∙ gone x other absent;
          }
        where
          after : List Entry
          after = h ++ (entry ∷ [])

          own_matched : Matched E ps at spent who after
          own_matched =
              record {
                lent = lent;
                number = sym (number_own h entry);
                sound = L.spends_sound (plan_at ps k) at held cost a;
                agree =
                    L.spends (plan_at ps k) at held cost a ∙ ap (λ (x : ℕ). x + price (plan_at ps k) cost) b
                    ∙ sym (owed_spends ps h entry drained);
              }

          other_matched : (x : Planned R) (id : ℕ) → (who ≡ id → ⊥) → Matched E ps at x id h → Matched E ps at x id after
          other_matched x id d m =
              record {
                lent = m.lent;
                number = m.number ∙ sym (number_others h entry id d);
                sound = m.sound;
                agree = m.agree ∙ sym (owed_others ps at h entry id d);
              }

          matched_at :
              (j : ℕ) → j < n → somebody (id_at K put j) ≡ true → Dec (j ≡ i) → Matched E ps at (K.row put j) (id_at K put j) after
          matched_at j k o (yes e) =
              subst (λ (x : ℕ). Matched E ps at (K.row put x) (id_at K put x) after) (sym e)
              (subst (λ (x : Planned R). Matched E ps at x (id_at K put i) after) (sym (S.row_same c i who at spent (omega (arith, v.slots))))
              (subst (λ (x : ℕ). Matched E ps at spent x after) (sym id_same) own_matched))
          matched_at j k o (no d) =
              subst (λ (x : Planned R). Matched E ps at x (id_at K put j) after) (sym (S.row_other c i j who at spent d))
              (subst (λ (x : ℕ). Matched E ps at (K.row c j) x after) (sym (id_other j d))
              (other_matched (K.row c j) (id_at K c j) (not_who f j k d)
              (v.matched j k (ap (λ (x : ℕ). somebody x) (sym (id_other j d)) ∙ o))))
