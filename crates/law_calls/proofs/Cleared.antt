-- A clear that answers 0 leaves a table in which any cost up to the burst is admitted at any moment, into slot 0.
-- Assumes nothing.
use mathlib.Core.Path.{◌≡◌, refl, sym, ap, subst, ◌∙◌}
use mathlib.Core.Bool.{Bool, true, false}
use mathlib.Core.List.{List}
use Prim.Native.Nat.{ℕ, ◌<◌}
use native.Mathlib.Omega.{arith}
use lib.Dec.{eqb, ltb}
use lib.ListN.{length, get_or, get_or-replicate}
use borrow.Author.Tests.{eqb-false, le-ltb}
use Rattle.ticks.specs.Grains.{on_clock}
use Rattle.rate.specs.Decision.{bare}
use Rattle.rate.specs.Account.{Account}
use Rattle.rate.specs.Balanced.{Balanced}
use Rattle.rate.proofs.Answers.{answered_number, bare_number, admitted_number}
use Rattle.table.specs.Request.{Request}
use Rattle.table.specs.Checks.{slots_ok}
use Rattle.table.specs.Rule.{Rule, rule_of, admitted_at, owed_at, spent_at, fresh_at}
use Rattle.table.specs.Slots.{Columns}
use Rattle.table.specs.Calls.{Step, acquire, clear, toll}
use Rattle.table.specs.Passed.{Payable}
use Rattle.table.specs.Places.{Unknown, Vacant}
use Rattle.table.specs.Stored.{Stored}
use Rattle.table.proofs.Cases.{clear_done, clear_unfit}
use Rattle.table.proofs.Checks.{slots_least}
use Rattle.table.proofs.Outcomes.{writes, admits_new}
use Rattle.table.proofs.Slots.{carries_other, vacant_empty}

module _ {C R : Type 0} (K : Columns C R) (c : C) where
  -- a clear that answers 0 has found a table, and has made it all zeros
  pub cleared_table : (clear K c).answer.number ≡ 0 → slots_ok (K.slots c) ≡ true
  cleared_table n = by (slots_ok (K.slots c)) refl
    where
      by : (t : Bool) → slots_ok (K.slots c) ≡ t → slots_ok (K.slots c) ≡ true
      by true e = e
      by false e =
          absurd (omega (arith, sym n ∙ ap (λ (s : Step C). s.answer.number) (clear_unfit K c e) ∙ answered_number 0 (bare 2) ∙ bare_number 2))

  pub cleared_after : (clear K c).answer.number ≡ 0 → (clear K c).after ≡ K.zeros c
  cleared_after n = ap (λ (s : Step C). s.after) (clear_done K c (cleared_table n))

  -- one that answers 2 leaves everything as it was
  pub unfit_kept : slots_ok (K.slots c) ≡ false → (clear K c).after ≡ c
  unfit_kept e = ap (λ (s : Step C). s.after) (clear_unfit K c e)

  -- so the newest moment is 0
  pub cleared_newest : Stored K → (clear K c).answer.number ≡ 0 → K.newest (clear K c).after ≡ 0
  cleared_newest S n = ap (λ (d : C). K.newest d) (cleared_after n) ∙ S.newest_zeros c

  module _ (S : Stored K) (table : slots_ok (K.slots c) ≡ true) where
    -- every slot of it is empty
    pub zeros_empty : (j : ℕ) → j < K.slots c → get_or (K.ids (K.zeros c)) j 0 ≡ 0
    zeros_empty j h =
        ap (λ (l : List ℕ). get_or l j 0) (S.ids_zeros c)
        ∙ get_or-replicate (length (K.ids c)) j 0 0 (omega (arith, S.ids_length c (slots_least (K.slots c) table)))

    module _ {P : Type 0} (U : Rule P R) (r : Request P) (p : Payable (toll U K r (K.zeros c))) where
      zeros_unknown : Unknown K r.query (K.zeros c)
      zeros_unknown j h =
          carries_other _ _ j (λ e. eqb-false _ _ p.asked.subscriber (sym e ∙ zeros_empty j (omega (arith, S.slots_zeros c))))

      zeros_vacant : Vacant U K r.query (K.zeros c) 0
      zeros_vacant =
          let some = slots_least (K.slots c) table in
          record {
            within = omega (arith, S.slots_zeros c);
            passes = vacant_empty U K r.query.setting r.query.moment (K.zeros c) 0 (zeros_empty 0 (omega arith));
            first = λ j l. absurd (omega arith);
          }

module _ {C P R : Type 0} {A : Account P R} (L : Balanced A) (K : Columns C R) (S : Stored K) (c : C) (r : Request P) where
  pub cleared_admits :
      (clear K c).answer.number ≡ 0 → Payable (toll (rule_of A) K r (clear K c).after) →
      acquire (rule_of A) K r (clear K c).after ≡ writes K r (clear K c).after (admitted_at A r (fresh_at A r)) 0 (spent_at A r (fresh_at A r))
  cleared_admits n p =
      let table = cleared_table K c n in
      let p = subst (λ (d : C). Payable (toll (rule_of A) K r d)) (cleared_after K c n) p in
      rw (cleared_after K c n) (admits_new L K r (K.zeros c) p 0 (zeros_unknown K c S table (rule_of A) r p) (zeros_vacant K c S table (rule_of A) r p))

  pub cleared_number :
      (clear K c).answer.number ≡ 0 → A.ok r.query.setting ≡ true → on_clock r.query.moment ≡ true →
      eqb r.query.subscriber 0 ≡ false → eqb r.cost 0 ≡ false → ltb (A.plan r.query.setting).burst r.cost ≡ false →
      (acquire (rule_of A) K r (clear K c).after).answer.number ≡ 0
  cleared_number n setting moment subscriber cost burst =
      let slots = ap (λ (d : C). K.slots d) (cleared_after K c n) ∙ S.slots_zeros c in
      let payable : Payable (toll (rule_of A) K r (clear K c).after) =
      record {
        asked = record {
          plan = setting;
          table = ap (λ (k : ℕ). slots_ok k) slots ∙ cleared_table K c n;
          moment = moment;
          newest = le-ltb r.query.moment (K.newest (clear K c).after) (omega (arith, cleared_newest K c S n));
          subscriber = subscriber;
        };
        cost = cost;
        burst = burst;
      } in
      ap (λ (s : Step C). s.answer.number) (cleared_admits n payable)
      ∙ answered_number r.query.subscriber (admitted_at A r (fresh_at A r))
      ∙ admitted_number (A.plan r.query.setting) r.query.moment (owed_at A r (fresh_at A r)) r.cost
