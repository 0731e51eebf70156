-- Which records under the plans lent are free: each is compared with what the moment is in ticks of its plan.
-- Assumes nothing.
use mathlib.Core.Path.{◌≡◌, sym, ap, ◌∙◌}
use mathlib.Core.Bool.{Bool, true, false, ◌&&◌}
use mathlib.Core.List.{List}
use mathlib.Core.Logic.{◌⊎◌, inl, inr}
use Prim.Native.Nat.{ℕ, ◌+◌, ◌-◌, ◌%◌, ◌^◌, ◌≤◌, ◌<◌, min}
use native.Mathlib.Nat.{eq-or-lt_of_le}
use native.Mathlib.Omega.{arith}
use lib.Dec.{leb}
use borrow.Author.Tests.{leb-false, lt-leb}
use lib.ListN.{length, get_or, set}
use lib.Seq.{get_or-set_same, get_or-set_other}
use Rattle.ticks.specs.declared.plan.Plan.{Plan}
use Rattle.ticks.specs.declared.units.Ticks.{Ticks}
use Rattle.ticks.specs.Grains.{ticks_in}
use Rattle.ticks.proofs.Limits.{ticks_most, on_clock_lem}
use Rattle.ticks.proofs.Tests.{leb_same, not_both}
use Rattle.plans.specs.Plans.{Plans, known, plan_at, Lending}
use Rattle.plans.proofs.Lent.{is_lent, is_unlent, lent_below}
use Rattle.plans.proofs.Accounts.{ok_facts}
use Rattle.rule_gcra.specs.Gcra.{gcra}
use Rattle.rule_gcra.specs.Planned.{Drained}
use Rattle.rule_gcra.proofs.Laws.{free_test}

-- the moment in ticks of the first plans
abbrev pub DrainedTo : List Plan → ℕ → List ℕ → ℕ → Type 0
DrainedTo ps at column i = (k : ℕ) → k < i → get_or column k 0 ≡ min (ticks_in (plan_at ps k) at) (2 ^ 64 - 1)

pub drained_next :
    (ps : List Plan) (at : ℕ) (column : List ℕ) (i : ℕ) {ticks : ℕ} {p : Plan} → DrainedTo ps at column i → i < length column →
    ticks ≡ min (ticks_in p at) (2 ^ 64 - 1) → p ≡ plan_at ps i → DrainedTo ps at (set column i ticks) (i + 1)
drained_next ps at column i {ticks} {p} all within e is k h = by (eq-or-lt_of_le {n = k} {m = i} (omega arith))
  where
    by : (k ≡ i) ⊎ (k < i) → get_or (set column i ticks) k 0 ≡ min (ticks_in (plan_at ps k) at) (2 ^ 64 - 1)
    by (inl same) =
        ap (λ (k : ℕ). get_or (set column i ticks) k 0) same ∙ get_or-set_same column i ticks 0 within ∙ e
        ∙ ap (λ (q : Plan). min (ticks_in q at) (2 ^ 64 - 1)) (is ∙ ap (λ (k : ℕ). plan_at ps k) (sym same))
    by (inr before) = get_or-set_other column i k ticks 0 (λ same. omega arith) ∙ all k before

module _ (ps : List Plan) (at number : ℕ) (tat : Ticks) where
  pub unlent_not_free : length ps ≤ number → false ≡ (known ps number && gcra.free (plan_at ps number) at tat)
  unlent_not_free h = ap (λ (t : Bool). t && gcra.free (plan_at ps number) at tat) (sym (is_unlent ps number h))

  pub lent_free :
      (column : List ℕ) → Drained ps at column → tat.0 < 2 ^ 64 → number < length ps →
      leb tat.0 (get_or column number 0) ≡ (known ps number && gcra.free (plan_at ps number) at tat)
  lent_free column d fits h =
      let is = d.each number h in
      leb_same tat.0 (get_or column number 0) tat.0 (ticks_in (plan_at ps number) at) (λ h. omega (arith, is)) (λ h. omega (arith, is))
      ∙ sym (free_test (plan_at ps number) at tat)
      ∙ ap (λ (t : Bool). t && gcra.free (plan_at ps number) at tat) (sym (is_lent ps number h))

  -- a TAT beyond what the moment is in ticks of its own plan is not free
  pub beyond_own :
      (known ps number ≡ true → ticks_in (plan_at ps number) at < tat.0) → (known ps number && gcra.free (plan_at ps number) at tat) ≡ false
  beyond_own beyond =
      not_both _ _ (λ k. free_test (plan_at ps number) at tat ∙ lt-leb tat.0 (ticks_in (plan_at ps number) at) (beyond k))

  -- .. nor one beyond what the moment is in ticks of every plan that is lent
  pub beyond_not_free :
      (most : ℕ) → ((k : ℕ) → k < length ps → ticks_in (plan_at ps k) at ≤ most) → leb tat.0 most ≡ false →
      (known ps number && gcra.free (plan_at ps number) at tat) ≡ false
  beyond_not_free most all h = beyond_own (λ k. omega (arith, all number (lent_below ps number k), leb-false tat.0 most h))

-- nor one beyond what stands at the place of its plan in a column of sixteen
pub beyond_looked_up :
    (p : Plans) (at : ℕ) → Lending p at → (column : List ℕ) → Drained p.plans at column → (number : ℕ) (tat : Ticks) →
    (get_or column (number % 16) 0 < 2 ^ 63 → get_or column (number % 16) 0 < tat.0) → (known p.plans number && gcra.free (plan_at p.plans number) at tat) ≡ false
beyond_looked_up p at l column d number tat beyond =
    beyond_own p.plans at number tat
    (λ k.
    let facts = ok_facts p l.plans in
    let below = lent_below p.plans number k in
    let same : number % 16 ≡ number = omega (arith, below, facts.most) in
    let there = ap (λ (k : ℕ). get_or column k 0) same ∙ d.each number below in
    let small = ticks_most (plan_at p.plans number) (facts.each number below) at (on_clock_lem at l.moment) in
    omega (arith, there, small, beyond (omega (arith, there, small))))
