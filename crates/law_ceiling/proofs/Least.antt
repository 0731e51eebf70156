-- The ceiling is the least for the attainable plans, and is met under no other.
-- Assumes nothing.
use mathlib.Core.Path.{◌≡◌, sym, ap, subst, ◌∙◌}
use mathlib.Core.List.{List}
use Prim.Native.Nat.{ℕ, suc, ◌+◌, ◌-◌, ◌*◌, ◌/◌, ◌%◌, ◌≤◌, ◌<◌}
use native.Mathlib.Nat.{add-mul, one-mul, le-mul_of_pos_right, mul_assoc, mul_left_comm, mul-le-mul_left, mod-lt, mod-one, mod_self, div-add-mod', mul-div_cancel', dvd_of_mod-eq-zero, add-mul-mod_self_left, mul-mod_right}
use native.Mathlib.Omega.{arith}
use Rattle.ticks.specs.declared.plan.Plan.{Plan}
use Rattle.ticks.specs.Grains.{ticks_in, price, capacity, last_moment, WithinLimits}
use Rattle.ticks.proofs.Limits.{ticks_are, price_is, capacity_is}
use Rattle.ticks.proofs.Products.{ticks_split, price_add, price_larger}
use Rattle.rate.specs.Engine.{Engine}
use Rattle.rate.specs.Lawful.{Lawful}
use Rattle.plans.specs.declared.planned.Planned.{Planned}
use Rattle.plans.specs.Plans.{plan_at, planned}
use Rattle.rule_gcra.proofs.Laws.{gcra_lawful}
use Rattle.rule_token_bucket.proofs.Laws.{token_bucket_lawful}
use Rattle.table.specs.Rule.{rule_of}
use Rattle.table.specs.Slots.{Columns}
use Rattle.table.specs.Calls.{clear}
use Rattle.table.specs.Stored.{Stored}
use Rattle.table_gcra.specs.Table as gcra_table
use Rattle.table_gcra.proofs.Columns.{gcra_stored}
use Rattle.table_token_bucket.specs.Table as token_bucket_table
use Rattle.table_token_bucket.proofs.Columns.{token_bucket_stored}
use Rattle.law_calls.proofs.Cleared.{cleared_table}
use Rattle.law_history.specs.History.{Entry}
use Rattle.law_history.specs.Run.{Call}
use Rattle.law_ceiling.specs.Counted.{calls_under, units, booked, notes}
use Rattle.law_ceiling.specs.Ceiling.{Within, ceiling}
use Rattle.law_ceiling.specs.Least.{greedy, Attainable, Greedy, Reached, Least}
use Rattle.law_ceiling.proofs.Stretch.{parts}
use Rattle.law_ceiling.proofs.Ceiling.{of_history, notes_are_booked}
use Rattle.law_ceiling.proofs.Greedy.{reached}
use Rattle.law_ceiling.proofs.Rounded.{ticks_next, ceiling_price, rounded_down}
use Rattle.law_ceiling.proofs.Lossless.{Lossless, lossless, attainable}

-- the ticks of the next unit come back after a stretch that brings whole units
recurs : (p : Plan) (length t : ℕ) → ticks_in p length % p.period ≡ 0 → ticks_in p t % p.period ≡ ticks_in p (t % length) % p.period
recurs p length t e =
    let q = ticks_in p length / p.period in
    let brings : p.period * q ≡ ticks_in p length = mul-div_cancel' p.period (dvd_of_mod-eq-zero p.period e) in
    let turns : t / length * length * p.limit ≡ p.period * (t / length * q) =
    mul_assoc (t / length) length p.limit ∙ ap (λ (x : ℕ). t / length * x) (sym (ticks_are p length) ∙ sym brings)
    ∙ mul_left_comm (t / length) p.period q
    in
    let sum =
    ap (λ (x : ℕ). ticks_in p x) (sym (div-add-mod' t length)) ∙ ticks_are p (t / length * length + t % length)
    ∙ add-mul (t / length * length) (t % length) p.limit
    in
    let whole : ticks_in p t ≡ ticks_in p (t % length) + p.period * (t / length * q) =
    omega (arith, sum, turns, ticks_are p (t % length))
    in
    ap (λ (x : ℕ). x % p.period) whole ∙ add-mul-mod_self_left (ticks_in p (t % length)) p.period (t / length * q)

-- a stretch that meets the ceiling
module _
    (ps : List Plan) (slots : ℕ) (run : List Call) (who number from length : ℕ) (w : WithinLimits (plan_at ps number)) (some : 1 ≤ length)
    (meets :
    price (plan_at ps number) (units who number from (from + length) (booked slots ps run))
    ≡ ticks_in (plan_at ps number) length + capacity (plan_at ps number)) where
  abbrev p : Plan
  p = plan_at ps number

  abbrev h : List Entry
  h = booked slots ps run

  -- the part up to a moment and the part after it are within their own ceilings
  module _ (u : ℕ) (within : u < length) where
    early : ℕ
    early = units who number from (from + u) h

    late : ℕ
    late = units who number (suc (from + u)) (from + length) h

    both : units who number from (from + length) h ≤ early + late
    unfolding units early late
    both = parts from (from + u) (from + length) (calls_under who number h)

    early_most : price p early + ticks_in p u % p.period ≤ ticks_in p u + capacity p
    unfolding early
    early_most =
        let span : from + u - from ≡ u = omega arith in
        let held = subst (λ (x : ℕ). Within p x early) span ((of_history ps slots run).moments who number from (from + u)) in
        let most = (rounded_down p w.period_least u early).0 held in
        omega (arith, price_larger p early (ceiling p u) most, ceiling_price p w.period_least u)

    late_most : price p late ≤ ticks_in p (length - suc u) + capacity p
    unfolding late
    late_most =
        let span : from + length - suc (from + u) ≡ length - suc u = omega arith in
        subst (λ (x : ℕ). Within p x late) span ((of_history ps slots run).moments who number (suc (from + u)) (from + length))

    room : ticks_in p u % p.period + p.limit ≤ capacity p
    room =
        let dearer = price_larger p (units who number from (from + length) h) (early + late) both in
        let split = ticks_split p (suc u) length within in
        omega (arith, dearer, price_add p early late, early_most, late_most, split, ticks_next p u, meets)

  -- and it brings whole units, so that holds at every moment
  whole : ticks_in p length % p.period ≡ 0
  whole =
      let c = units who number from (from + length) h in
      let sum : p.period * c ≡ ticks_in p length + p.period * p.burst = sym (price_is p c) ∙ meets ∙ ap (λ (x : ℕ). ticks_in p length + x) (capacity_is p) in
      sym (add-mul-mod_self_left (ticks_in p length) p.period p.burst) ∙ ap (λ (x : ℕ). x % p.period) (sym sum)
      ∙ mul-mod_right p.period c

  every_moment : Lossless p
  every_moment t =
      let u = t % length in
      omega (arith, recurs p length t whole, room u (mod-lt t {m = length} some))

  only : Attainable p
  only = attainable p w.period_least every_moment

-- what a host notes of an engine
reached_by :
    {C R : Type 0} {E : Engine R} → Lawful E → (K : Columns C (Planned R)) → Stored K → (ps : List Plan) (number who last : ℕ) →
    Greedy ps number who → last ≤ last_moment → (c : C) → (clear K c).answer.number ≡ 0 →
    Reached ps number who last (notes (rule_of (planned E)) K ps c (greedy (plan_at ps number) number who last))
reached_by L K S ps number who last g clock c e =
    subst (λ (l : List Entry). Reached ps number who last l)
    (sym (notes_are_booked L K S ps c (greedy (plan_at ps number) number who last) e))
    (reached ps number who last g clock (K.slots c) (cleared_table K c e))

-- one period brings N units, and nothing of the next
met : (p : Plan) → WithinLimits p → price p (ceiling p p.period) ≡ ticks_in p p.period + capacity p
met p w =
    let none = ap (λ (x : ℕ). x % p.period) (ticks_are p p.period) ∙ mul-mod_right p.period p.limit in
    omega (arith, ceiling_price p w.period_least p.period, none)

-- P × N ≥ P − 1 + N
bursty : (p : Plan) → WithinLimits p → p.limit ≤ p.burst → Attainable p
bursty p w most =
    let one : p.period ≡ p.period - 1 + 1 = omega (arith, w.period_least) in
    let parts = ap (λ (x : ℕ). x * p.limit) one ∙ add-mul (p.period - 1) 1 p.limit in
    let rest = le-mul_of_pos_right {m = p.limit} (p.period - 1) w.limit_least in
    record {
      divisor = 1;
      of_limit = mod-one p.limit;
      of_period = mod-one p.period;
      fits = omega (arith, capacity_is p, mul-le-mul_left p.period most, parts, one-mul p.limit, rest, w.period_least);
    }

slow : (p : Plan) → WithinLimits p → 2 ≤ p.burst → p.limit ≤ p.period → Attainable p
slow p w two unit =
    record {
      divisor = 1;
      of_limit = mod-one p.limit;
      of_period = mod-one p.period;
      fits = omega (arith, capacity_is p, mul-le-mul_left p.period two, unit);
    }

dividing : (p : Plan) → WithinLimits p → p.period % p.limit ≡ 0 → Attainable p
dividing p w e =
    record {
      divisor = p.limit;
      of_limit = mod_self p.limit;
      of_period = e;
      fits = omega (arith, capacity_is p, mul-le-mul_left p.period w.burst_least);
    }

-- 1000 units come in within a millisecond, and 1 fits
not_every : Attainable (record { limit = 1000; period = 1; burst = 1 }) → ⊥
not_every a =
    let p : Plan = record { limit = 1000; period = 1; burst = 1 } in
    omega (arith, lossless p (omega arith) a 0, capacity_is p)

pub least : Least
least =
    record {
      rounded_down = λ p w. rounded_down p w.period_least;
      reached = reached;
      reached_by_gcra = reached_by gcra_lawful gcra_table.columns gcra_stored;
      reached_by_token_bucket = reached_by token_bucket_lawful token_bucket_table.columns token_bucket_stored;
      met = met;
      only = only;
      bursty = bursty;
      slow = slow;
      dividing = dividing;
      not_every = not_every;
    }
