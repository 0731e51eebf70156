-- What is selected of a list of calls: costs and debt of a part are at most those of the whole.
-- Assumes nothing.
use mathlib.Core.Path.{◌≡◌, refl, ap, ◌∙◌}
use mathlib.Core.Bool.{Bool, true, false, cond}
use mathlib.Core.List.{List, [], ◌∷◌, ◌++◌, append-nil}
use Prim.Native.Nat.{ℕ, ◌+◌, ◌≤◌}
use native.Mathlib.Omega.{arith}
use Rattle.ticks.specs.declared.plan.Plan.{Plan}
use Rattle.ticks.specs.Grains.{price}
use Rattle.ticks.proofs.Products.{price_larger}
use Rattle.law_history.specs.History.{Entry, costs, debt}
use Rattle.law_history.proofs.Owing.{costs_none, costs_step, debt_step}
use Rattle.law_ceiling.specs.Counted.{select}

pub costs_append : (a b : List Entry) → costs (a ++ b) ≡ costs a + costs b
costs_append [] b = omega (arith, costs_none)
costs_append (x ∷ rest) b = omega (arith, costs_append rest b, costs_step x (rest ++ b), costs_step x rest)

module _ (test : Entry → Bool) where
  pub select_true : (e : Entry) (rest : List Entry) → test e ≡ true → select test (e ∷ rest) ≡ e ∷ select test rest
  unfolding select
  select_true e rest t = rw t

  pub select_false : (e : Entry) (rest : List Entry) → test e ≡ false → select test (e ∷ rest) ≡ select test rest
  unfolding select
  select_false e rest t = rw t

  pub select_none : select test [] ≡ []
  unfolding select
  select_none = refl

  pub select_append : (a b : List Entry) → select test (a ++ b) ≡ select test a ++ select test b
  unfolding select
  select_append [] b = refl
  select_append (x ∷ rest) b = by (test x) (select_append rest b)
    where
      by :
          (t : Bool) → select test (rest ++ b) ≡ select test rest ++ select test b →
          cond t (x ∷ select test (rest ++ b)) (select test (rest ++ b))
          ≡ cond t (x ∷ select test rest) (select test rest) ++ select test b
      by true ih = ap (λ (l : List Entry). x ∷ l) ih
      by false ih = ih

  -- a call at the end
  pub select_in : (l : List Entry) (e : Entry) → test e ≡ true → select test (l ++ (e ∷ [])) ≡ select test l ++ (e ∷ [])
  select_in l e t =
      select_append l (e ∷ [])
      ∙ ap (λ (x : List Entry). select test l ++ x) (select_true e [] t ∙ ap (λ (x : List Entry). e ∷ x) select_none)

  pub select_out : (l : List Entry) (e : Entry) → test e ≡ false → select test (l ++ (e ∷ [])) ≡ select test l
  select_out l e t =
      select_append l (e ∷ []) ∙ ap (λ (x : List Entry). select test l ++ x) (select_false e [] t ∙ select_none)
      ∙ append-nil (select test l)

  -- a part costs no more than the whole, and owes no more
  pub costs_part : (l : List Entry) → costs (select test l) ≤ costs l
  unfolding select
  costs_part [] = omega arith
  costs_part (x ∷ rest) = by (test x) (costs_part rest)
    where
      by : (t : Bool) → costs (select test rest) ≤ costs rest → costs (cond t (x ∷ select test rest) (select test rest)) ≤ costs (x ∷ rest)
      by true ih = omega (arith, ih, costs_step x (select test rest), costs_step x rest)
      by false ih = omega (arith, ih, costs_step x rest)

  pub debt_part : (p : Plan) (s : ℕ) (l : List Entry) → debt p s (select test l) ≤ debt p s l
  unfolding select
  debt_part p s [] = omega arith
  debt_part p s (x ∷ rest) = by (test x) (debt_part p s rest)
    where
      dearer : price p (costs (x ∷ select test rest)) ≤ price p (costs (x ∷ rest))
      dearer = price_larger p _ _ (omega (arith, costs_part rest, costs_step x (select test rest), costs_step x rest))

      by : (t : Bool) → debt p s (select test rest) ≤ debt p s rest → debt p s (cond t (x ∷ select test rest) (select test rest)) ≤ debt p s (x ∷ rest)
      by true ih = omega (arith, ih, dearer, debt_step p s x (select test rest), debt_step p s x rest)
      by false ih = omega (arith, ih, debt_step p s x rest)
