-- A subscriber that alone has asked: its asks pass the checks, find a slot, and are admitted exactly as far as they fit.
-- Assumes nothing.
use mathlib.Core.Path.{◌≡◌, sym, ap, ◌∙◌}
use mathlib.Core.Bool.{true, false}
use mathlib.Core.List.{List, [], ◌∷◌, ◌++◌}
use Prim.Native.Nat.{ℕ, ◌+◌, ◌≤◌}
use native.Mathlib.Decide.{ℕ_discrete}
use native.Mathlib.Omega.{arith}
use lib.Dec.{eqb}
use borrow.Author.Tests.{ne_eqb, le-leb, le-ltb}
use Rattle.ticks.specs.declared.plan.Plan.{Plan}
use Rattle.ticks.specs.Grains.{price, capacity, last_moment, WithinLimits}
use Rattle.ticks.proofs.Limits.{within_limits, clock_within}
use Rattle.rate.proofs.Left.{fits_test}
use Rattle.plans.specs.Plans.{Plans, plans_of, plan_at, plans_ok}
use Rattle.plans.proofs.Accounts.{ok_at, ok_known}
use Rattle.table.specs.Request.{Request, request_of}
use Rattle.table.specs.Checks.{slots_ok}
use Rattle.table.specs.Passed.{Asked, Payable}
use Rattle.table.specs.Calls.{Step}
use Rattle.table.proofs.Checks.{asks, pays, number_5, slots_least}
use Rattle.law_history.specs.History.{Entry, costs, owed, plan_number, newest, owes_elsewhere, debtors, entry_of, toll_at, gate_at}
use Rattle.law_history.specs.Run.{acquire, history, step}
use Rattle.law_history.proofs.Deciding.{book_refused, book_decides, decide_admitted, same_plan, owes_nothing, no_debtors}
use Rattle.law_history.proofs.Latest.{calls_none, number_own}
use Rattle.law_history.proofs.Owing.{costs_none, costs_step, owed_others}
use Rattle.law_history.proofs.Steps.{step_acquire}
use Rattle.law_ceiling.specs.Counted.{select, under, calls_under, during, units}
use Rattle.law_ceiling.proofs.Lists.{costs_append, select_in, select_none}
use Rattle.law_ceiling.proofs.Covered.{under_own}

pub units_none : (who number from to : ℕ) → units who number from to [] ≡ 0
unfolding units
units_none who number from to =
    ap (λ (l : List Entry). costs (select (during from to) (select (under number) l))) (calls_none who)
    ∙ ap (λ (l : List Entry). costs (select (during from to) l)) (select_none (under number))
    ∙ ap costs (select_none (during from to)) ∙ costs_none

-- somebody asks under a plan that is lent, on a table
pub record Asker (ps : List Plan) (number who slots : ℕ) : Type 0 where
  pub lent : plans_ok (plans_of ps number) ≡ true
  pub subscriber : 1 ≤ who
  pub table : slots_ok slots ≡ true

module _ (ps : List Plan) (number who slots : ℕ) (a : Asker ps number who slots) where
  abbrev p : Plan
  p = plan_at ps number

  pub asks_within : WithinLimits p
  asks_within = within_limits p (ok_at (plans_of ps number) a.lent number (ok_known (plans_of ps number) a.lent))

  -- nobody else owes, and the subscriber owes nothing under another plan
  pub record Sole (h : List Entry) : Type 0 where
    pub alone : (s x : ℕ) → (x ≡ who → ⊥) → owed ps s x h ≡ 0
    pub own : (plan_number who h ≡ number → ⊥) → (s : ℕ) → owed ps s who h ≡ 0

  -- an ask by it
  module _ (h : List Entry) (sole : Sole h) (at cost : ℕ) (late : newest h ≤ at) (clock : at ≤ last_moment) where
    abbrev r : Request Plans
    r = request_of (plans_of ps number) at who cost

    abbrev after : List Entry
    after = (step (history slots) ps h (acquire at who number cost)).after

    asked : Asked (gate_at slots r.query h)
    asked =
        record {
          plan = a.lent;
          table = a.table;
          moment = clock_within at clock;
          newest = le-ltb at (newest h) late;
          subscriber = ne_eqb who 0 (λ z. omega (arith, a.subscriber, z));
        }

    here : owes_elsewhere r.query h ≡ false
    here = by (ℕ_discrete (plan_number who h) number)
      where
        by : Dec (plan_number who h ≡ number) → owes_elsewhere r.query h ≡ false
        by (yes n) = same_plan r.query h n
        by (no n) = owes_nothing r.query h (sole.own n at)

    room : debtors r.query h ≡ slots → ⊥
    room e = omega (arith, e, no_debtors r.query h (sole.alone at), slots_least slots a.table)

    -- for none
    pub asks_none : cost ≡ 0 → after ≡ h
    asks_none z =
        let five = number_5 (toll_at slots r h) (asks (gate_at slots r.query h) asked) (ap (λ (x : ℕ). eqb x 0) z) in
        ap (λ (s : Step (List Entry)). s.after)
        (step_acquire slots ps h at who number cost ∙ book_refused slots r h (ap (λ (x : ℕ). eqb x 0) five))

    -- for what fits
    pub asks_some : 1 ≤ cost → cost ≤ p.burst → owed ps at who h + price p cost ≤ capacity p → after ≡ h ++ (entry_of r ∷ [])
    asks_some least burst fits =
        let pay : Payable (toll_at slots r h) =
        record { asked = asked; cost = ne_eqb cost 0 (λ z. omega (arith, least, z)); burst = le-ltb p.burst cost burst }
        in
        let admits = sym (fits_test p (owed ps at who h) cost _ _ (λ z. z) (λ z. z)) ∙ le-leb _ _ fits in
        ap (λ (s : Step (List Entry)). s.after)
        (step_acquire slots ps h at who number cost
        ∙ book_decides slots r h (pays (toll_at slots r h) pay)
        ∙ decide_admitted slots r h here room admits)

  -- what an admission adds
  module _ (h : List Entry) (at cost : ℕ) where
    abbrev pub entry : Entry
    entry = record { subscriber = who; moment = at; plan = number; cost = cost }

    pub sole_more : Sole h → Sole (h ++ (entry ∷ []))
    sole_more sole =
        record {
          alone = λ s x n. owed_others ps s h entry x (λ z. n (sym z)) ∙ sole.alone s x n;
          own = λ n s. absurd (n (number_own h entry));
        }

    pub units_more : (last : ℕ) → at ≤ last → units who number 0 last (h ++ (entry ∷ [])) ≡ units who number 0 last h + cost
    unfolding units
    units_more last l =
        let in_time : during 0 last entry ≡ true = rw (le-leb 0 at (omega arith), le-leb at last l) in
        let calls =
        ap (λ (x : List Entry). costs (select (during 0 last) x)) (under_own h entry)
        ∙ ap costs (select_in (during 0 last) (calls_under who number h) entry in_time)
        ∙ costs_append (select (during 0 last) (calls_under who number h)) (entry ∷ [])
        in
        omega (arith, calls, costs_step entry [], costs_none)
