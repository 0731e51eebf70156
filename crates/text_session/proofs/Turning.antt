-- What a line is told in each case. The proof of a function that answers a line cites the case that it returns in.
-- Assumes nothing.
use mathlib.Core.Path.{◌≡◌, refl, sym, ap, ◌∙◌}
use mathlib.Core.Bool.{Bool, true, false, cond, ◌&&◌}
use Prim.Native.Nat.{ℕ, ◌≤◌}
use native.Mathlib.Omega.{arith}
use lib.Dec.{leb}
use borrow.Author.Tests.{leb-true}
use Rattle.rate.specs.declared.answer.Numbers as numbers
use Rattle.ticks.specs.declared.plan.Plan as plan
use Rattle.ticks.specs.Grains.{plan_ok}
use Rattle.ticks.proofs.Tests.{both}
use Rattle.table.specs.Calls.{Step}
use Rattle.table_gcra.specs.Table.{Table, clear}
use Rattle.text_protocol.specs.declared.command.Command.{Command}
use Rattle.text_protocol.specs.declared.command.Command.TheVariants.{Plan, Ask}
use Rattle.text_protocol.specs.Reply.{refusal, unreadable}
use Rattle.std.specs.Prelude.{Option, Some, None, Result, Ok, Err}
use Rattle.rate.specs.declared.answer.Reason.TheVariants.{BadPlan, BadTable}
use Rattle.text_session.specs.declared.Opened.{Opened}
use Rattle.text_session.specs.declared.Refusal.{Refusal}
use Rattle.text_session.specs.declared.Refusal.TheVariants.{NoPlan, Because}
use Rattle.text_session.specs.declared.Stage.{Stage}
use Rattle.text_session.specs.declared.Stage.TheVariants.{First, Open, Over}
use Rattle.text_session.specs.Session.{text_slots, opened, number_of, opening, turn, part, back, first, other, answer, slots_of, Bounded}
use Rattle.text_session.proofs.Columns.{back_same}

-- the first line: it is no plan
pub opening_no_plan : (c : Option Command) → ((slots : ℕ) (plan : plan.Plan) → c ≡ Some (Plan slots plan) → ⊥) → Err NoPlan ≡ opening c
unfolding opening
opening_no_plan (Some (Plan slots plan)) o = absurd (o slots plan refl)
opening_no_plan (Some (Ask moment subscriber cost)) o = refl
opening_no_plan None o = refl

-- it is one
module _ (c : Option Command) {slots : ℕ} {plan : plan.Plan} (is : c ≡ Some (Plan slots plan)) where
  pub opening_bad_plan : plan_ok plan ≡ false → opening c ≡ Err (Because BadPlan)
  unfolding opening
  opening_bad_plan e = rw (is, e)

  module _ (ok : plan_ok plan ≡ true) where
    pub opening_bad_slots : (leb 1 slots && leb slots text_slots) ≡ false → opening c ≡ Err (Because BadTable)
    unfolding opening
    opening_bad_slots e = rw (is, ok, e)

    pub opening_good : (leb 1 slots && leb slots text_slots) ≡ true → Ok (opened plan slots) ≡ opening c
    unfolding opening
    opening_good e = rw (is, ok, e)

-- a run that opens has no more slots than a plan may ask for
unfoldable Fitting : Result Opened Refusal → Type 0
Fitting (Err r) = Unit {0}
Fitting (Ok o) = o.slots ≤ text_slots

plan_fitting : (plan : plan.Plan) (slots : ℕ) → Fitting (opening (Some (Plan slots plan)))
unfolding Fitting opening
plan_fitting plan slots = by (plan_ok plan) (leb 1 slots && leb slots text_slots) refl
  where
    by :
        (ok within : Bool) → (leb 1 slots && leb slots text_slots) ≡ within →
        Fitting (cond ok (cond within (Ok (opened plan slots)) (Err (Because BadTable))) (Err (Because BadPlan)))
    by false within e = tt
    by true false e = tt
    by true true e = leb-true slots text_slots (both (leb 1 slots) (leb slots text_slots) e).1

opening_fitting : (c : Option Command) → Fitting (opening c)
unfolding Fitting opening
opening_fitting (Some (Plan slots plan)) = plan_fitting plan slots
opening_fitting (Some (Ask moment subscriber cost)) = tt
opening_fitting None = tt

-- what the first line is told, by what it comes to
module _ (c : Option Command) (t : Table) where
  pub first_refused :
      {r : Refusal} {n : ℕ} {m : numbers.Numbers} → opening c ≡ Err r → n ≡ number_of r → m ≡ refusal n →
      record { reply = Some m; stage = Over; table = t } ≡ first (opening c) t
  unfolding first
  first_refused e n f = rw (e, f, n)

  pub first_opened :
      {o : Opened} {u : Table} → opening c ≡ Ok o → u ≡ (clear (part o.slots t)).after →
      record { reply = None; stage = Open o; table = back o.slots t u } ≡ first (opening c) t
  unfolding first
  first_opened e f = rw (e, f)

-- any other line: it is no ask
module _ (o : Opened) (c : Option Command) (t : Table) where
  no_ask :
      ((moment subscriber cost : ℕ) → c ≡ Some (Ask moment subscriber cost) → ⊥) →
      turn o.plan c (part o.slots t) ≡ record { answer = refusal unreadable; after = part o.slots t }
  unfolding turn
  no_ask = by c
    where
      by :
          (d : Option Command) → ((moment subscriber cost : ℕ) → d ≡ Some (Ask moment subscriber cost) → ⊥) →
          turn o.plan d (part o.slots t) ≡ record { answer = refusal unreadable; after = part o.slots t }
      by (Some (Ask moment subscriber cost)) n = absurd (n moment subscriber cost refl)
      by (Some (Plan slots plan)) n = refl
      by None n = refl

  pub other_refused :
      {m : numbers.Numbers} → ((moment subscriber cost : ℕ) → c ≡ Some (Ask moment subscriber cost) → ⊥) → m ≡ refusal unreadable →
      record { reply = Some m; stage = Open o; table = t } ≡ other o c t
  other_refused n e k =
      record {
        reply = Some ((e ∙ sym (ap (λ (s : Step Table). s.answer) (no_ask n))) k);
        stage = Open o;
        table = (sym (back_same o.slots t) ∙ sym (ap (λ (s : Step Table). back o.slots t s.after) (no_ask n))) k;
      }

-- a run stays within its slots
pub bounded_first : Bounded First
unfolding slots_of
bounded_first = omega arith

first_bounded : (o : Result Opened Refusal) (t : Table) → Fitting o → Bounded (first o t).stage
unfolding first slots_of Fitting
first_bounded (Err r) t h = omega arith
first_bounded (Ok o) t h = h

pub answer_bounded : (stage : Stage) (c : Option Command) (t : Table) → Bounded stage → Bounded (answer stage c t).stage
unfolding answer slots_of
answer_bounded First c t h = first_bounded (opening c) t (opening_fitting c)
answer_bounded (Open o) c t h = h
answer_bounded Over c t h = omega arith
