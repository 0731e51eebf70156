-- Two lawful engines whose records owe the same go on answering and owing the same, whatever asks come: both drain alike,
-- and what an ask is answered and what it adds depend on the backlog alone. So any two lawful engines agree over the life of
-- one record.
-- Assumes nothing.
use mathlib.Core.Path.{◌≡◌, refl, ap, ap₂, sym, ◌∙◌}
use mathlib.Core.Bool.{Bool, true, false}
use mathlib.Core.List.{List, [], ◌∷◌}
use Prim.Native.Nat.{ℕ, ◌+◌, ◌-◌, ◌≤◌}
use Rattle.ticks.specs.declared.plan.Plan.{Plan}
use Rattle.ticks.specs.Grains.{ticks_in, price}
use Rattle.rate.specs.Decision.{admissible, admitted, throttled}
use Rattle.rate.specs.Engine.{Engine}
use Rattle.rate.specs.Account.{alone, Judged, judge}
use Rattle.rate.specs.Life.{Ask, Rising, newest, lived, verdicts, Agreement}
use Rattle.rate.specs.Lawful.{Lawful}
use Rattle.rate.proofs.Alone.{judge_admitted, judge_throttled}

pub record Alike {R S : Type 0} (E : Engine R) (F : Engine S) (p : Plan) (at : ℕ) (r : R) (s : S) : Type 0 where
  pub left_sound : E.sound p at r ≡ true
  pub right_sound : F.sound p at s ≡ true
  pub same : E.backlog p at r ≡ F.backlog p at s

-- one ask on two records: the same answer, and records that owe the same again
pub record Agreed {R S : Type 0} (E : Engine R) (F : Engine S) (p : Plan) (at : ℕ) (j : Judged R) (k : Judged S) : Type 0 where
  pub verdict : j.verdict ≡ k.verdict
  pub after : Alike E F p at j.after k.after

module _ {R S : Type 0} {E : Engine R} {F : Engine S} (L : Lawful E) (M : Lawful F) (p : Plan) where
  pub later : (l k : ℕ) (r : R) (s : S) → l ≤ k → Alike E F p l r s → Alike E F p k r s
  later l k r s h a =
      record {
        left_sound = L.stays_sound p l k r h a.left_sound;
        right_sound = M.stays_sound p l k s h a.right_sound;
        same =
            L.drains p l k r h a.left_sound
            ∙ ap (λ (b : ℕ). b - ticks_in p (k - l)) a.same
            ∙ sym (M.drains p l k s h a.right_sound);
      }

  same_test : (at : ℕ) (r : R) (s : S) (cost : ℕ) → Alike E F p at r s → E.admits p at r cost ≡ F.admits p at s cost
  same_test at r s cost a =
      L.admits_iff p at r cost
      ∙ ap (λ (b : ℕ). admissible p b cost) a.same
      ∙ sym (M.admits_iff p at s cost)

  pub ask_agrees :
      (at : ℕ) (r : R) (s : S) (cost : ℕ) → Alike E F p at r s → Agreed E F p at (judge (alone E) p at r cost) (judge (alone F) p at s cost)
  ask_agrees at r s cost a = by (E.admits p at r cost) refl
    where
      by : (t : Bool) → E.admits p at r cost ≡ t → Agreed E F p at (judge (alone E) p at r cost) (judge (alone F) p at s cost)
      by true e =
          let f = sym (same_test at r s cost a) ∙ e in
          rw (judge_admitted E p at r cost a.left_sound e, judge_admitted F p at s cost a.right_sound f)
          (record {
            verdict = ap (λ (b : ℕ). admitted p at b cost) a.same;
            after =
                record {
                  left_sound = L.spends_sound p at r cost e;
                  right_sound = M.spends_sound p at s cost f;
                  same =
                      L.spends p at r cost e ∙ ap (λ (b : ℕ). b + price p cost) a.same ∙ sym (M.spends p at s cost f);
                };
          })
      by false e =
          let f = sym (same_test at r s cost a) ∙ e in
          rw (judge_throttled E p at r cost a.left_sound e, judge_throttled F p at s cost a.right_sound f)
          (record { verdict = ap (λ (b : ℕ). throttled p at b cost) a.same; after = a })

  pub life_agrees :
      (asks : List Ask) (from : ℕ) (r : R) (s : S) → Rising from asks → Alike E F p from r s →
      (verdicts E p r asks ≡ verdicts F p s asks) × Alike E F p (newest from asks) (lived E p r asks) (lived F p s asks)
  unfolding newest lived verdicts
  life_agrees [] from r s up a = (refl, a)
  life_agrees (q ∷ rest) from r s up a =
      let now = ask_agrees q.moment r s q.cost (later from q.moment r s up.0 a) in
      let then = life_agrees rest q.moment (judge (alone E) p q.moment r q.cost).after (judge (alone F) p q.moment s q.cost).after up.1 now.after in
      (ap₂ ◌∷◌ now.verdict then.0, then.1)

  -- over one record's life, with moments that never fall, the two agree
  pub lives_agree : (from : ℕ) (asks : List Ask) → Rising from asks → Agreement E F p from asks
  lives_agree from asks up =
      let r = E.fresh p from in
      let s = F.fresh p from in
      let fresh : Alike E F p from r s =
      record {
        left_sound = L.fresh_sound p from;
        right_sound = M.fresh_sound p from;
        same = L.fresh_owes_nothing p from ∙ sym (M.fresh_owes_nothing p from);
      } in
      let whole = life_agrees asks from r s up fresh in
      record {
        answers = whole.0;
        backlogs = λ k h. (later (newest from asks) k (lived E p r asks) (lived F p s asks) h whole.1).same;
      }
