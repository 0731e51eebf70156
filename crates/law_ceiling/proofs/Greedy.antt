-- The greediest subscriber of an attainable plan: at every millisecond it owes a full bucket but for the ticks of the next unit, and has
-- got as many units as the ceiling says.
-- Assumes nothing.
use mathlib.Core.Path.{◌≡◌, refl, sym, ap, subst, ◌∙◌}
use mathlib.Core.Bool.{true}
use mathlib.Core.List.{List, [], ◌∷◌, ◌++◌}
use Prim.Native.Nat.{ℕ, zero, suc, ◌+◌, ◌-◌, ◌%◌, ◌≤◌}
use native.Mathlib.Nat.{le_of_mul-le-mul_left, zero-mod}
use native.Mathlib.Omega.{arith}
use borrow.Author.Tests.{eqb-false}
use Rattle.ticks.specs.declared.plan.Plan.{Plan}
use Rattle.ticks.specs.Grains.{ticks_in, price, capacity, last_moment, WithinLimits}
use Rattle.ticks.proofs.Limits.{capacity_is_price, price_is}
use Rattle.ticks.proofs.Products.{ticks_split, ticks_none, price_none}
use Rattle.plans.specs.Plans.{plan_at}
use Rattle.table.specs.Checks.{slots_ok}
use Rattle.law_history.specs.History.{Entry, owed, plan_number, newest}
use Rattle.law_history.specs.Run.{Call, acquire, Machine, history, step}
use Rattle.law_history.proofs.Latest.{number_own}
use Rattle.law_history.proofs.Owing.{owed_none, owed_drains, owed_spends, newest_none, newest_end}
use Rattle.law_ceiling.specs.Counted.{units, final, booked}
use Rattle.law_ceiling.specs.Ceiling.{ceiling}
use Rattle.law_ceiling.specs.Least.{greedy, Greedy, Reached}
use Rattle.law_ceiling.proofs.Rounded.{ticks_next, ceiling_none, ceiling_grows, ceiling_next}
use Rattle.law_ceiling.proofs.Lossless.{Lossless, lossless}
use Rattle.law_ceiling.proofs.Alone.{Asker, asks_within, Sole, entry, asks_none, asks_some, sole_more, units_none, units_more}

module _ (ps : List Plan) (number who slots : ℕ) (a : Asker ps number who slots) where
  abbrev p : Plan
  p = plan_at ps number

  abbrev e : List Entry → ℕ → ℕ → Entry
  e = entry ps number who slots a

  w : WithinLimits p
  w = asks_within ps number who slots a

  -- after the moment t
  record State (t : ℕ) (h : List Entry) : Type 0 where
    sole : Sole ps number who slots a h
    under : plan_number who h ≡ number
    since : newest h ≤ t
    owes : owed ps t who h + ticks_in p t % p.period ≡ capacity p
    gets : (last : ℕ) → t ≤ last → units who number 0 last h ≡ ceiling p t

  -- .. with an admission at t
  state_more :
      (h : List Entry) (t cost : ℕ) → Sole ps number who slots a h → newest h ≤ t →
      owed ps t who h + price p cost + ticks_in p t % p.period ≡ capacity p →
      ((last : ℕ) → t ≤ last → units who number 0 last h + cost ≡ ceiling p t) → State t (h ++ (e h t cost ∷ []))
  state_more h t cost sole late owes gets =
      record {
        sole = sole_more ps number who slots a h t cost sole;
        under = number_own h (e h t cost);
        since = omega (arith, newest_end h (e h t cost) late);
        owes = omega (arith, owes, owed_spends ps h (e h t cost) (λ n. sole.own (eqb-false _ _ n) t));
        gets = λ last l. units_more ps number who slots a h t cost last l ∙ gets last l;
      }

  begin : State 0 (step (history slots) ps [] (acquire 0 who number p.burst)).after
  begin = subst (λ (h : List Entry). State 0 h) (sym done) (state_more [] 0 p.burst nobody (omega (arith, newest_none)) owes gets)
    where
      nobody : Sole ps number who slots a []
      nobody = record { alone = λ s x n. owed_none ps s x; own = λ n s. owed_none ps s who }

      done : (step (history slots) ps [] (acquire 0 who number p.burst)).after ≡ e [] 0 p.burst ∷ []
      done =
          asks_some ps number who slots a [] nobody 0 p.burst (omega (arith, newest_none)) (omega arith) w.burst_least (omega arith)
          (omega (arith, owed_none ps 0 who, capacity_is_price p))

      owes : owed ps 0 who [] + price p p.burst + ticks_in p 0 % p.period ≡ capacity p
      owes =
          omega (
            arith,
            owed_none ps 0 who,
            capacity_is_price p,
            ap (λ (x : ℕ). x % p.period) (ticks_none p 0),
            zero-mod p.period,
          )

      gets : (last : ℕ) → 0 ≤ last → units who number 0 last [] + p.burst ≡ ceiling p 0
      gets last l = omega (arith, units_none who number 0 last, ceiling_none p)

  -- the next millisecond
  module _ (free : Lossless p) (t : ℕ) (h : List Entry) (v : State t h) where
    abbrev come : ℕ
    come = ceiling p (suc t) - ceiling p t

    comes : price p come + ticks_in p (suc t) % p.period ≡ ticks_in p t % p.period + p.limit
    comes = ceiling_next p w.period_least t

    grows : ceiling p t ≤ ceiling p (suc t)
    grows = ceiling_grows p w.period_least t

    -- what is owed meanwhile drains by N
    drained : owed ps (suc t) who h + p.limit + ticks_in p t % p.period ≡ capacity p
    drained =
        let drains = owed_drains ps t (suc t) (omega arith) who h in
        let same = ap (λ (k : ℕ). ticks_in (plan_at ps k) (suc t - t)) v.under in
        omega (arith, drains, same, ticks_split p t (suc t) (omega arith), ticks_next p t, v.owes, free t)

    fits : come ≤ p.burst
    fits =
        le_of_mul-le-mul_left {m = come} {n = p.burst} {k = p.period}
        (omega (arith, price_is p come, price_is p p.burst, capacity_is_price p, comes, free t)) w.period_least

    next : suc t ≤ last_moment → State (suc t) (step (history slots) ps h (acquire (suc t) who number come)).after
    next clock = by come refl
      where
        by : (c : ℕ) → come ≡ c → State (suc t) (step (history slots) ps h (acquire (suc t) who number come)).after
        by zero z =
            subst (λ (x : List Entry). State (suc t) x) (sym (asks_none ps number who slots a h v.sole (suc t) come (omega (arith, v.since)) clock z))
            (record {
              sole = v.sole;
              under = v.under;
              since = omega (arith, v.since);
              owes = omega (arith, drained, comes, ap (λ (x : ℕ). price p x) z, price_none p);
              gets = λ last l. omega (arith, v.gets last (omega (arith, l)), z, grows);
            })
        by (suc c) z =
            subst (λ (x : List Entry). State (suc t) x)
            (sym (asks_some ps number who slots a h v.sole (suc t) come (omega (arith, v.since)) clock (omega (arith, z)) fits (omega (arith, drained, comes))))
            (state_more h (suc t) come v.sole (omega (arith, v.since)) (omega (arith, drained, comes))
            (λ last l. omega (arith, v.gets last (omega (arith, l)), grows)))

-- one run after another
final_after :
    {S : Type 0} (M : Machine S) (ps : List Plan) (run : List Call) (s : S) (more : List Call) →
    final M ps s (run ++ more) ≡ final M ps (final M ps s run) more
unfolding final
final_after M ps [] s more = refl
final_after M ps (c ∷ rest) s more = final_after M ps rest (step M ps s c).after more

module _ (ps : List Plan) (number who slots : ℕ) (a : Asker ps number who slots) (free : Lossless (plan_at ps number)) where
  state : (t : ℕ) → t ≤ last_moment → State ps number who slots a t (booked slots ps (greedy (plan_at ps number) number who t))
  unfolding greedy final
  state zero clock = begin ps number who slots a
  state (suc t) clock =
      let p = plan_at ps number in
      let call = acquire (suc t) who number (ceiling p (suc t) - ceiling p t) in
      subst (λ (h : List Entry). State ps number who slots a (suc t) h)
      (sym (final_after (history slots) ps (greedy p number who t) [] (call ∷ [])))
      (next ps number who slots a free t (booked slots ps (greedy p number who t)) (state t (omega (arith, clock))) clock)

pub reached :
    (ps : List Plan) (number who last : ℕ) → Greedy ps number who → last ≤ last_moment → (slots : ℕ) → slots_ok slots ≡ true →
    Reached ps number who last (booked slots ps (greedy (plan_at ps number) number who last))
reached ps number who last g clock slots table =
    let a : Asker ps number who slots = record { lent = g.lent; subscriber = g.subscriber; table = table } in
    let free = lossless (plan_at ps number) (asks_within ps number who slots a).period_least g.plan in
    (state ps number who slots a free last clock).gets last (omega arith)
