-- The ceiling: of a covered history, between any two moments and any two places; so of the history after any run, and of what a host notes
-- of either engine, which is that history.
-- Assumes nothing.
use mathlib.Core.Path.{◌≡◌, refl, sym, ap, subst, ◌∙◌}
use mathlib.Core.List.{List, [], ◌∷◌, ◌++◌}
use Prim.Native.Nat.{ℕ, ◌+◌, ◌-◌, ◌≤◌}
use native.Mathlib.Omega.{arith}
use borrow.Author.Tests.{eq-eqb}
use Rattle.ticks.specs.declared.plan.Plan.{Plan}
use Rattle.ticks.proofs.Products.{price_larger}
use Rattle.rate.specs.declared.answer.Numbers.{Numbers}
use Rattle.rate.specs.Engine.{Engine}
use Rattle.rate.specs.Lawful.{Lawful}
use Rattle.plans.specs.declared.planned.Planned.{Planned}
use Rattle.plans.specs.Plans.{plan_at, planned}
use Rattle.rule_gcra.proofs.Laws.{gcra_lawful}
use Rattle.rule_token_bucket.proofs.Laws.{token_bucket_lawful}
use Rattle.table.specs.Rule.{rule_of}
use Rattle.table.specs.Slots.{Columns}
use Rattle.table.specs.Calls.{clear}
use Rattle.table.specs.Stored.{Stored}
use Rattle.table_gcra.specs.Table as gcra_table
use Rattle.table_gcra.proofs.Columns.{gcra_stored}
use Rattle.table_token_bucket.specs.Table as token_bucket_table
use Rattle.table_token_bucket.proofs.Columns.{token_bucket_stored}
use Rattle.law_history.specs.History.{Entry, calls_of, costs, newest}
use Rattle.law_history.specs.Run.{Call}
use Rattle.law_history.proofs.Demand3.{engine_is_history}
use Rattle.law_ceiling.specs.Counted.{select, under, calls_under, during, units, booked, noted, notes}
use Rattle.law_ceiling.specs.Ceiling.{Within, Under, last_of, Bounded, Ceiling}
use Rattle.law_ceiling.proofs.Lists.{costs_append, select_append, select_true, select_none}
use Rattle.law_ceiling.proofs.Stretch.{stretch}
use Rattle.law_ceiling.proofs.Rising.{Rising, rising_after, all_during}
use Rattle.law_ceiling.proofs.Rounded.{rounded_down}
use Rattle.law_ceiling.proofs.Booked.{Kept, kept_none, kept_run, noted_run}

-- calls under one plan are all selected
all_under : (number : ℕ) (l : List Entry) → Under number l → select (under number) l ≡ l
all_under number [] u = select_none (under number)
all_under number (x ∷ rest) u =
    select_true (under number) x rest (eq-eqb x.plan number u.0) ∙ ap (λ (l : List Entry). x ∷ l) (all_under number rest u.1)

module _ (ps : List Plan) (h : List Entry) (v : Kept ps h) where
  between_moments : (who number from to : ℕ) → Within (plan_at ps number) (to - from) (units who number from to h)
  unfolding units
  between_moments who number from to =
      omega (arith, stretch from to (plan_at ps number) (calls_under who number h), v.covered.most to who number)

  -- what stands between two places is in the stretch from the first's moment to the last's
  module _
      (who : ℕ) (earlier : List Entry) (first : Entry) (between later : List Entry)
      (whole : calls_of who h ≡ earlier ++ ((first ∷ between) ++ later)) (same : Under first.plan between) where
    abbrev number : ℕ
    number = first.plan

    abbrev last : ℕ
    last = (last_of first between).moment

    abbrev chosen : List Entry → List Entry
    chosen l = select (during first.moment last) (select (under number) l)

    chosen_costs : (a b : List Entry) → costs (chosen (a ++ b)) ≡ costs (chosen a) + costs (chosen b)
    chosen_costs a b =
        ap (λ (l : List Entry). costs (select (during first.moment last) l)) (select_append (under number) a b)
        ∙ ap costs (select_append (during first.moment last) (select (under number) a) (select (under number) b))
        ∙ costs_append (chosen a) (chosen b)

    rises : Rising first.moment (between ++ later) (newest h)
    rises =
        (rising_after 0 earlier ((first ∷ between) ++ later) (newest h)
        (subst (λ (l : List Entry). Rising 0 l (newest h)) whole (v.rising who))).1

    all_chosen : chosen (first ∷ between) ≡ first ∷ between
    all_chosen =
        ap (λ (l : List Entry). select (during first.moment last) l) (all_under number (first ∷ between) (refl, same))
        ∙ all_during first.moment first between later (newest h) (omega arith) rises

    counted : costs (first ∷ between) ≤ units who number first.moment last h
    unfolding units
    counted =
        omega (
          arith,
          ap (λ (l : List Entry). costs (chosen l)) whole,
          chosen_costs earlier ((first ∷ between) ++ later),
          chosen_costs (first ∷ between) later,
          ap costs all_chosen,
        )

    between_places : Within (plan_at ps number) (last - first.moment) (costs (first ∷ between))
    between_places =
        let dearer = price_larger (plan_at ps number) (costs (first ∷ between)) (units who number first.moment last h) counted in
        omega (arith, dearer, between_moments who number first.moment last)

  bounded : Bounded ps h
  bounded =
      record {
        moments = between_moments;
        rounded = λ who number from to w.
            (rounded_down (plan_at ps number) w.period_least (to - from) (units who number from to h)).0 (between_moments who number from to);
        places = between_places;
      }

pub of_history : (ps : List Plan) (slots : ℕ) (run : List Call) → Bounded ps (booked slots ps run)
of_history ps slots run = bounded ps (booked slots ps run) (kept_run ps slots run [] (kept_none ps))

-- what a host notes of an engine is the history
pub notes_are_booked :
    {C R : Type 0} {E : Engine R} → Lawful E → (K : Columns C (Planned R)) → Stored K → (ps : List Plan) (c : C) (run : List Call) →
    (clear K c).answer.number ≡ 0 → notes (rule_of (planned E)) K ps c run ≡ booked (K.slots c) ps run
notes_are_booked L K S ps c run e =
    ap (λ (l : List Numbers). noted [] run l) (engine_is_history L K S ps (K.slots c) c refl e run) ∙ noted_run ps (K.slots c) run []

of_notes :
    {C R : Type 0} {E : Engine R} → Lawful E → (K : Columns C (Planned R)) → Stored K → (ps : List Plan) (c : C) (run : List Call) →
    (clear K c).answer.number ≡ 0 → Bounded ps (notes (rule_of (planned E)) K ps c run)
of_notes L K S ps c run e =
    subst (λ (h : List Entry). Bounded ps h) (sym (notes_are_booked L K S ps c run e)) (of_history ps (K.slots c) run)

pub ceiling : Ceiling
ceiling =
    record {
      of_history = of_history;
      of_gcra = of_notes gcra_lawful gcra_table.columns gcra_stored;
      of_token_bucket = of_notes token_bucket_lawful token_bucket_table.columns token_bucket_stored;
    }
