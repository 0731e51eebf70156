-- The ceiling rounded down to whole units, and what comes in within a millisecond.
-- Assumes nothing.
use mathlib.Core.Path.{◌≡◌, ap, ◌∙◌}
use Prim.Native.Nat.{ℕ, suc, ◌+◌, ◌-◌, ◌/◌, ◌%◌, ◌≤◌, ◌<◌}
use native.Mathlib.Nat.{mul_comm, div-add-mod', mod-lt, mul-one, one-mul, add-mul, zero-div}
use native.Mathlib.Decide.{dec_le}
use native.Mathlib.Omega.{arith}
use Rattle.ticks.specs.declared.plan.Plan.{Plan}
use Rattle.ticks.specs.Grains.{ticks_in, price, capacity}
use Rattle.ticks.proofs.Limits.{capacity_is_price, price_is, ticks_are}
use Rattle.ticks.proofs.Products.{ticks_none, ticks_longer, price_add, price_larger}
use Rattle.law_ceiling.specs.Ceiling.{Within, ceiling}

pub ticks_next : (p : Plan) (t : ℕ) → ticks_in p (suc t) ≡ ticks_in p t + p.limit
ticks_next p t =
    let more : suc t ≡ t + 1 = omega arith in
    omega (arith, ap (λ (x : ℕ). ticks_in p x) more, ticks_are p (t + 1), ticks_are p t, add-mul t 1 p.limit, one-mul p.limit)

module _ (p : Plan) (unit : 1 ≤ p.period) where
  -- units that have come in, and the ticks of the next one
  whole : (t : ℕ) → price p (ticks_in p t / p.period) + ticks_in p t % p.period ≡ ticks_in p t
  whole t =
      ap (λ (x : ℕ). x + ticks_in p t % p.period) (price_is p (ticks_in p t / p.period) ∙ mul_comm p.period (ticks_in p t / p.period))
      ∙ div-add-mod' (ticks_in p t) p.period

  -- what as many units as the ceiling says cost
  pub ceiling_price : (t : ℕ) → price p (ceiling p t) + ticks_in p t % p.period ≡ ticks_in p t + capacity p
  unfolding ceiling
  ceiling_price t = omega (arith, price_add p p.burst (ticks_in p t / p.period), whole t, capacity_is_price p)

  ticks_left : (t : ℕ) → ticks_in p t % p.period < p.period
  ticks_left t = mod-lt (ticks_in p t) {m = p.period} unit

  one_more : (cost : ℕ) → price p (cost + 1) ≡ price p cost + p.period
  one_more cost = omega (arith, price_add p cost 1, price_is p 1, mul-one p.period)

  pub rounded_down :
      (length cost : ℕ) → (Within p length cost → cost ≤ ceiling p length) × (cost ≤ ceiling p length → Within p length cost)
  rounded_down length cost = (there, back)
    where
      there : Within p length cost → cost ≤ ceiling p length
      there h = by (dec_le cost (ceiling p length))
        where
          by : Dec (cost ≤ ceiling p length) → cost ≤ ceiling p length
          by (yes k) = k
          by (no k) =
              absurd
              (omega (arith, h, price_larger p (ceiling p length + 1) cost (omega arith), one_more (ceiling p length), ceiling_price length, ticks_left length))

      back : cost ≤ ceiling p length → Within p length cost
      back h = omega (arith, price_larger p cost (ceiling p length) h, ceiling_price length)

  -- a longer stretch has no lower ceiling
  pub ceiling_grows : (t : ℕ) → ceiling p t ≤ ceiling p (suc t)
  ceiling_grows t =
      (rounded_down (suc t) (ceiling p t)).0 (omega (arith, ceiling_price t, ticks_longer p t (suc t) (omega arith)))

  -- what a millisecond brings: the units and the ticks of the next come to those that there were, and N
  pub ceiling_next :
      (t : ℕ) →
      price p (ceiling p (suc t) - ceiling p t) + ticks_in p (suc t) % p.period ≡ ticks_in p t % p.period + p.limit
  ceiling_next t =
      let sum : ceiling p (suc t) ≡ ceiling p t + (ceiling p (suc t) - ceiling p t) = omega (arith, ceiling_grows t) in
      let price_sum = ap (λ (x : ℕ). price p x) sum ∙ price_add p (ceiling p t) (ceiling p (suc t) - ceiling p t) in
      omega (arith, price_sum, ceiling_price t, ceiling_price (suc t), ticks_next p t)

-- of no time
pub ceiling_none : (p : Plan) → ceiling p 0 ≡ p.burst
unfolding ceiling
ceiling_none p = omega (arith, ap (λ (x : ℕ). x / p.period) (ticks_none p 0), zero-div p.period)
