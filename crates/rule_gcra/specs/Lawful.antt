-- GCRA has the backlog law: its record is the moment, in ticks, at which the backlog is gone. This is a proof, and no definition: the
-- code's `Gcra` names it, which may only name what stands in specs/.
use mathlib.Core.Path.{◌≡◌}
use mathlib.Core.Bool.{true, false, ◌&&◌, and-false}
use Prim.Native.Nat.{ℕ, ◌+◌, ◌-◌, ◌≤◌, ◌<◌, max}
use native.Mathlib.Omega.{arith}
use lib.Dec.{leb, eqb}
use borrow.Author.Tests.{leb-true, leb-false, le-leb, eq-eqb, ne_eqb}
use Rattle.ticks.specs.declared.plan.Plan.{Plan}
use Rattle.ticks.specs.declared.units.Ticks.{Ticks}
use Rattle.ticks.specs.Grains.{ticks_in, price, capacity}
use Rattle.ticks.proofs.Products.{ticks_split}
use Rattle.ticks.proofs.Tests.{by_leb}
use Rattle.rate.specs.Decision.{admissible}
use Rattle.rate.specs.Lawful.{Lawful}
use Rattle.rate.proofs.Left.{fits_test}
use Rattle.rule_gcra.specs.Gcra.{gcra, fresh, sound, free, later, backlog, admits, spend}

pub gcra_lawful : Lawful gcra
unfolding gcra fresh sound free later backlog admits spend
gcra_lawful =
    record {
      stays_sound = stays_sound;
      within = within;
      drains = drains;
      free_iff = free_iff;
      admits_iff = admits_iff;
      spends = spends;
      spends_sound = spends_sound;
      fresh_sound = λ p at. fact_sound p at (fresh p at) (omega arith);
      fresh_owes_nothing = λ p at. omega arith;
    }
  where
    owes_nothing : (p : Plan) (at : ℕ) (r : Ticks) → r.0 ≤ ticks_in p at → backlog p at r ≡ 0
    owes_nothing p at r h = omega arith

    owes_something : (p : Plan) (at : ℕ) (r : Ticks) → ticks_in p at < r.0 → backlog p at r ≡ 0 → ⊥
    owes_something p at r h e = omega arith

    -- what `sound` tests
    sound_fact : (p : Plan) (at : ℕ) (r : Ticks) → sound p at r ≡ true → r.0 ≤ ticks_in p at + capacity p
    sound_fact p at r e = leb-true _ _ e

    fact_sound : (p : Plan) (at : ℕ) (r : Ticks) → r.0 ≤ ticks_in p at + capacity p → sound p at r ≡ true
    fact_sound p at r h = le-leb _ _ h

    stays_sound : (p : Plan) (l k : ℕ) (r : Ticks) → l ≤ k → sound p l r ≡ true → sound p k r ≡ true
    stays_sound p l k r h e = fact_sound p k r (omega (arith, sound_fact p l r e, ticks_split p l k h))

    within : (p : Plan) (at : ℕ) (r : Ticks) → sound p at r ≡ true → backlog p at r ≤ capacity p
    within p at r e = omega (arith, sound_fact p at r e)

    drains : (p : Plan) (l k : ℕ) (r : Ticks) → l ≤ k → sound p l r ≡ true → backlog p k r ≡ backlog p l r - ticks_in p (k - l)
    drains p l k r h e = omega (arith, ticks_split p l k h)

    free_iff : (p : Plan) (at : ℕ) (r : Ticks) → free p at r ≡ (sound p at r && eqb (backlog p at r) 0)
    free_iff p at r = by_leb r.0 (ticks_in p at) is_free is_not
      where
        is_free : leb r.0 (ticks_in p at) ≡ true → leb r.0 (ticks_in p at) ≡ (sound p at r && eqb (backlog p at r) 0)
        is_free e =
            let h : r.0 ≤ ticks_in p at = leb-true _ _ e in
            rw (e, fact_sound p at r (omega arith), eq-eqb (backlog p at r) 0 (owes_nothing p at r h))

        is_not : leb r.0 (ticks_in p at) ≡ false → leb r.0 (ticks_in p at) ≡ (sound p at r && eqb (backlog p at r) 0)
        is_not e =
            let h : ticks_in p at < r.0 = leb-false _ _ e in
            rw (e, ne_eqb (backlog p at r) 0 (owes_something p at r h), and-false)

    admits_iff : (p : Plan) (at : ℕ) (r : Ticks) (cost : ℕ) → admits p at r cost ≡ admissible p (backlog p at r) cost
    admits_iff p at r cost =
        fits_test p (max r.0 (ticks_in p at) - ticks_in p at) cost (max r.0 (ticks_in p at) + price p cost - capacity p) (ticks_in p at)
        (λ h. omega arith) (λ h. omega arith)

    spends :
        (p : Plan) (at : ℕ) (r : Ticks) (cost : ℕ) → admits p at r cost ≡ true →
        backlog p at (spend p at r cost) ≡ backlog p at r + price p cost
    spends p at r cost e = omega arith

    spends_sound : (p : Plan) (at : ℕ) (r : Ticks) (cost : ℕ) → admits p at r cost ≡ true → sound p at (spend p at r cost) ≡ true
    spends_sound p at r cost e =
        let s : max r.0 (ticks_in p at) + price p cost - capacity p ≤ ticks_in p at = leb-true _ _ e in
        fact_sound p at (spend p at r cost) (omega arith)
