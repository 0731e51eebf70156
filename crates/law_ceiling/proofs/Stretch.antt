-- A stretch of time, on any list of calls: what it cost is at most what came in meanwhile and what the calls up to its end owe there.
-- Assumes nothing.
use mathlib.Core.Path.{◌≡◌, refl, ap}
use mathlib.Core.Bool.{Bool, true, false, cond, ◌&&◌}
use mathlib.Core.List.{List, [], ◌∷◌}
use Prim.Native.Nat.{ℕ, suc, ◌+◌, ◌-◌, ◌≤◌}
use native.Mathlib.Omega.{arith}
use lib.Dec.{leb}
use borrow.Author.Tests.{leb-true, leb-false}
use Rattle.ticks.specs.declared.plan.Plan.{Plan}
use Rattle.ticks.specs.Grains.{ticks_in, price}
use Rattle.ticks.proofs.Products.{ticks_split, ticks_longer, price_larger, price_none}
use Rattle.law_history.specs.History.{Entry, costs, debt}
use Rattle.law_history.proofs.Owing.{costs_none, costs_step, debt_step}
use Rattle.law_ceiling.specs.Counted.{select, during}

-- the calls up to a moment
abbrev pub up_to : ℕ → List Entry → List Entry
up_to to l = select (λ e. leb e.moment to) l

module _ (from to : ℕ) where
  -- of the calls up to the end, those of the stretch cost no more than all
  part : (l : List Entry) → costs (select (during from to) l) ≤ costs (up_to to l)
  unfolding select
  part [] = omega arith
  part (e ∷ rest) = by (leb from e.moment) (leb e.moment to) (part rest)
    where
      by :
          (a b : Bool) → costs (select (during from to) rest) ≤ costs (up_to to rest) →
          costs (cond (a && b) (e ∷ select (during from to) rest) (select (during from to) rest)) ≤ costs (cond b (e ∷ up_to to rest) (up_to to rest))
      by true true ih = omega (arith, ih, costs_step e (select (during from to) rest), costs_step e (up_to to rest))
      by false true ih = omega (arith, ih, costs_step e (up_to to rest))
      by true false ih = ih
      by false false ih = ih

  pub stretch : (p : Plan) (l : List Entry) → price p (costs (select (during from to) l)) ≤ ticks_in p (to - from) + debt p to (up_to to l)
  unfolding select
  stretch p [] = omega (arith, ap (λ (c : ℕ). price p c) costs_none, price_none p)
  stretch p (e ∷ rest) = by (leb from e.moment) refl (leb e.moment to) refl (stretch p rest)
    where
      some : List Entry
      some = select (during from to) rest

      all : List Entry
      all = up_to to rest

      first : from ≤ e.moment → e.moment ≤ to → price p (costs (e ∷ some)) ≤ ticks_in p (to - from) + debt p to (e ∷ all)
      first a b =
          let dearer = price_larger p (costs (e ∷ some)) (costs (e ∷ all)) (omega (arith, part rest, costs_step e some, costs_step e all)) in
          let longer = ticks_longer p (to - e.moment) (to - from) (omega arith) in
          omega (arith, dearer, longer, ticks_split p e.moment to b, debt_step p to e all)

      by :
          (a : Bool) → leb from e.moment ≡ a → (b : Bool) → leb e.moment to ≡ b →
          price p (costs some) ≤ ticks_in p (to - from) + debt p to all →
          price p (costs (cond (a && b) (e ∷ some) some)) ≤ ticks_in p (to - from) + debt p to (cond b (e ∷ all) all)
      by true ea true eb ih = first (leb-true _ _ ea) (leb-true _ _ eb)
      by false ea true eb ih = omega (arith, ih, debt_step p to e all)
      by true ea false eb ih = ih
      by false ea false eb ih = ih

-- two stretches, one just after the other, cost at least what both together do
module _ (from mid to : ℕ) where
  pub parts : (l : List Entry) → costs (select (during from to) l) ≤ costs (select (during from mid) l) + costs (select (during (suc mid) to) l)
  unfolding select
  parts [] = omega arith
  parts (e ∷ rest) =
      by (leb from e.moment) (leb e.moment to) (leb e.moment mid) refl (leb (suc mid) e.moment) refl (parts rest)
    where
      whole : List Entry
      whole = select (during from to) rest

      early : List Entry
      early = select (during from mid) rest

      late : List Entry
      late = select (during (suc mid) to) rest

      -- a call more, or none
      more : (t : Bool) (l : List Entry) → costs l ≤ costs (cond t (e ∷ l) l)
      more true l = omega (arith, costs_step e l)
      more false l = omega arith

      by :
          (a b c : Bool) → leb e.moment mid ≡ c → (d : Bool) → leb (suc mid) e.moment ≡ d → costs whole ≤ costs early + costs late →
          costs (cond (a && b) (e ∷ whole) whole) ≤ costs (cond (a && c) (e ∷ early) early) + costs (cond (d && b) (e ∷ late) late)
      by true true true ec d ed ih = omega (arith, ih, costs_step e whole, costs_step e early, more (d && true) late)
      by true true false ec true ed ih = omega (arith, ih, costs_step e whole, costs_step e late)
      by true true false ec false ed ih = absurd (omega (arith, leb-false e.moment mid ec, leb-false (suc mid) e.moment ed))
      by true false c ec d ed ih = omega (arith, ih, more c early, more (d && false) late)
      by false b c ec d ed ih = omega (arith, ih, more (d && b) late)
