-- What the history owes drains and grows as an engine's backlog does: by N a millisecond down to 0, and by P×cost at an
-- admission, P and N being those of the run's plan. And its newest moment is that of the last admission, as a table's is.
-- Assumes nothing.
use mathlib.Core.Path.{◌≡◌, refl, sym, ap, ◌∙◌}
use mathlib.Core.Bool.{Bool, true, false}
use mathlib.Core.List.{List, [], ◌∷◌, ◌++◌}
use Prim.Native.Nat.{ℕ, ◌+◌, ◌-◌, ◌≤◌, max}
use native.Mathlib.Omega.{arith}
use lib.Dec.{eqb}
use borrow.Author.Tests.{eqb-true}
use Rattle.ticks.specs.declared.plan.Plan.{Plan}
use Rattle.ticks.specs.Grains.{ticks_in, price}
use Rattle.ticks.proofs.Products.{ticks_split, price_add}
use Rattle.plans.specs.Plans.{plan_at}
use Rattle.law_history.specs.History.{Entry, newest, costs, debt, number_of, extend, run_of, plan_number, owed, member, names}
use Rattle.law_history.proofs.Latest.{extend_same, extend_other, extend_number, run_own, run_other, run_none, run_unnamed}

-- the recursions, for who does not unfold them
pub costs_none : costs [] ≡ 0
unfolding costs
costs_none = refl

pub costs_step : (e : Entry) (rest : List Entry) → costs (e ∷ rest) ≡ e.cost + costs rest
unfolding costs
costs_step e rest = refl

pub debt_none : (p : Plan) (s : ℕ) → debt p s [] ≡ 0
unfolding debt
debt_none p s = refl

pub debt_step :
    (p : Plan) (s : ℕ) (e : Entry) (rest : List Entry) →
    debt p s (e ∷ rest) ≡ max (price p (costs (e ∷ rest)) + ticks_in p e.moment - ticks_in p s) (debt p s rest)
unfolding debt
debt_step p s e rest = refl

pub drains : (p : Plan) (l m : ℕ) → l ≤ m → (es : List Entry) → debt p m es ≡ debt p l es - ticks_in p (m - l)
unfolding debt
drains p l m h [] = omega arith
drains p l m h (e ∷ rest) = omega (arith, drains p l m h rest, ticks_split p l m h)

costs_one : (e : Entry) → costs (e ∷ []) ≡ e.cost
unfolding costs
costs_one e = omega arith

costs_end : (es : List Entry) (e : Entry) → costs (es ++ (e ∷ [])) ≡ costs es + e.cost
unfolding costs
costs_end [] e = omega arith
costs_end (x ∷ rest) e = omega (arith, costs_end rest e)

-- a call at the moment itself adds its price
pub adds : (p : Plan) (es : List Entry) (e : Entry) → debt p e.moment (es ++ (e ∷ [])) ≡ debt p e.moment es + price p e.cost
unfolding debt
adds p [] e = omega (arith, ap (λ (n : ℕ). price p n) (costs_one e))
adds p (x ∷ rest) e =
    omega (arith, adds p rest e, ap (λ (n : ℕ). price p n) (costs_end (x ∷ rest) e) ∙ price_add p (costs (x ∷ rest)) e.cost)

-- what a run owes by its plan
unfoldable owed_in : List Plan → ℕ → List Entry → ℕ
owed_in ps s run = debt (plan_at ps (number_of run)) s run

owed_in_lem : (ps : List Plan) (s who : ℕ) (h : List Entry) → owed ps s who h ≡ owed_in ps s (run_of who h)
unfolding owed owed_in plan_number
owed_in_lem ps s who h = refl

-- a call adds its price by its plan, if it goes on with the run or nothing is owed
extend_adds :
    (ps : List Plan) (run : List Entry) (e : Entry) →
    (eqb (number_of run) e.plan ≡ false → owed_in ps e.moment run ≡ 0) →
    owed_in ps e.moment (extend run e) ≡ owed_in ps e.moment run + price (plan_at ps e.plan) e.cost
unfolding owed_in
extend_adds ps run e drained =
    ap (λ (k : ℕ). debt (plan_at ps k) e.moment (extend run e)) (extend_number run e) ∙ by (eqb (number_of run) e.plan) refl
  where
    p : Plan
    p = plan_at ps e.plan

    by :
        (t : Bool) → eqb (number_of run) e.plan ≡ t →
        debt (plan_at ps e.plan) e.moment (extend run e)
        ≡ debt (plan_at ps (number_of run)) e.moment run + price (plan_at ps e.plan) e.cost
    by true t =
        let same = eqb-true _ _ t in
        ap (λ (l : List Entry). debt p e.moment l) (extend_same run e same) ∙ adds p run e
        ∙ ap (λ (k : ℕ). debt (plan_at ps k) e.moment run + price p e.cost) (sym same)
    by false t =
        ap (λ (l : List Entry). debt p e.moment l) (extend_other run e t)
        ∙ omega (arith, adds p [] e, debt_none p e.moment, drained t)

-- what the history owes drains by N a millisecond, and no further than 0
pub owed_drains :
    (ps : List Plan) (l m : ℕ) → l ≤ m → (who : ℕ) (h : List Entry) →
    owed ps m who h ≡ owed ps l who h - ticks_in (plan_at ps (plan_number who h)) (m - l)
unfolding owed
owed_drains ps l m k who h = drains (plan_at ps (plan_number who h)) l m k (run_of who h)

-- an admission adds its price, if it names the same plan as before or nothing is owed
pub owed_spends :
    (ps : List Plan) (h : List Entry) (e : Entry) →
    (eqb (plan_number e.subscriber h) e.plan ≡ false → owed ps e.moment e.subscriber h ≡ 0) →
    owed ps e.moment e.subscriber (h ++ (e ∷ []))
    ≡ owed ps e.moment e.subscriber h + price (plan_at ps e.plan) e.cost
unfolding plan_number
owed_spends ps h e drained =
    owed_in_lem ps e.moment e.subscriber (h ++ (e ∷ []))
    ∙ ap (λ (l : List Entry). owed_in ps e.moment l) (run_own h e)
    ∙ extend_adds ps (run_of e.subscriber h) e (λ o. sym (owed_in_lem ps e.moment e.subscriber h) ∙ drained o)
    ∙ ap (λ (b : ℕ). b + price (plan_at ps e.plan) e.cost) (sym (owed_in_lem ps e.moment e.subscriber h))

-- and changes nothing of the others
pub owed_others :
    (ps : List Plan) (s : ℕ) (h : List Entry) (e : Entry) (who : ℕ) → (e.subscriber ≡ who → ⊥) →
    owed ps s who (h ++ (e ∷ [])) ≡ owed ps s who h
owed_others ps s h e who n =
    owed_in_lem ps s who (h ++ (e ∷ [])) ∙ ap (λ (l : List Entry). owed_in ps s l) (run_other h e who n) ∙ sym (owed_in_lem ps s who h)

-- whoever has no run owes nothing
owed_nothing : (ps : List Plan) (s who : ℕ) (h : List Entry) → run_of who h ≡ [] → owed ps s who h ≡ 0
unfolding owed_in
owed_nothing ps s who h e =
    owed_in_lem ps s who h ∙ ap (λ (l : List Entry). owed_in ps s l) e ∙ debt_none (plan_at ps (number_of [])) s

pub owed_none : (ps : List Plan) (s who : ℕ) → owed ps s who [] ≡ 0
owed_none ps s who = owed_nothing ps s who [] (run_none who)

-- .. nor does who is not named in the history
pub owed_unnamed : (ps : List Plan) (s who : ℕ) (h : List Entry) → member who (names h) ≡ false → owed ps s who h ≡ 0
owed_unnamed ps s who h n = owed_nothing ps s who h (run_unnamed who h n)

-- an admission that is not before the newest moment is the newest
pub newest_end : (h : List Entry) (e : Entry) → newest h ≤ e.moment → newest (h ++ (e ∷ [])) ≡ e.moment
unfolding newest
newest_end [] e k = omega arith
newest_end (x ∷ rest) e k =
    let most : newest rest ≤ e.moment = omega arith in
    omega (arith, newest_end rest e most)

pub newest_none : newest [] ≡ 0
unfolding newest
newest_none = refl
