-- A plan that is looser than each of those that are lent.
-- Assumes nothing.
use mathlib.Core.Path.{◌≡◌, sym, ◌∙◌}
use mathlib.Core.Logic.{◌⊎◌, inl, inr}
use mathlib.Core.List.{List}
use Prim.Native.Nat.{ℕ, ◌+◌, ◌≤◌, ◌<◌, max}
use native.Mathlib.Nat.{eq-or-lt_of_le}
use native.Mathlib.Omega.{arith}
use Rattle.ticks.specs.declared.plan.Plan.{Plan}
use Rattle.ticks.specs.Grains.{capacity, WithinLimits}
use Rattle.ticks.proofs.Limits.{capacity_is}
use Rattle.plans.specs.Plans.{plan_at, Looser}

-- what `looser` promises of two plans
abbrev pub Loosens : Plan → Plan → Plan → Type 0
Loosens p q r = (Looser r p × Looser r q) × (WithinLimits p → WithinLimits q → WithinLimits r)

-- period and burst of one plan make its capacity
same_capacity : (p : Plan) (limit : ℕ) → capacity (record { limit = limit; period = p.period; burst = p.burst }) ≡ capacity p
same_capacity p limit = capacity_is (record { limit = limit; period = p.period; burst = p.burst }) ∙ sym (capacity_is p)

module _ (p q : Plan) {limit : ℕ} (is : limit ≡ max p.limit q.limit) where
  pub loosens_first : capacity p ≤ capacity q → Loosens p q (record { limit = limit; period = p.period; burst = p.burst })
  loosens_first h =
      let same = same_capacity p limit in (
        (record { limit = omega (arith, is); holds = omega (arith, same) }, record { limit = omega (arith, is); holds = omega (arith, same) }),
        λ v w.
            record {
              limit_least = omega (arith, is, v.limit_least);
              limit_most = omega (arith, is, v.limit_most, w.limit_most);
              period_least = v.period_least;
              period_most = v.period_most;
              burst_least = v.burst_least;
              burst_most = v.burst_most;
            },
      )

  pub loosens_second : capacity q ≤ capacity p → Loosens p q (record { limit = limit; period = q.period; burst = q.burst })
  loosens_second h =
      let same = same_capacity q limit in (
        (record { limit = omega (arith, is); holds = omega (arith, same) }, record { limit = omega (arith, is); holds = omega (arith, same) }),
        λ v w.
            record {
              limit_least = omega (arith, is, v.limit_least);
              limit_most = omega (arith, is, v.limit_most, w.limit_most);
              period_least = w.period_least;
              period_most = w.period_most;
              burst_least = w.burst_least;
              burst_most = w.burst_most;
            },
      )

-- looser than the first of them
abbrev pub LooserTo : List Plan → Plan → ℕ → Type 0
LooserTo ps p i = (k : ℕ) → k < i → Looser p (plan_at ps k)

looser_itself : (p : Plan) → Looser p p
looser_itself p = record { limit = omega arith; holds = omega arith }

looser_than : {p q r : Plan} → Looser p q → Looser q r → Looser p r
looser_than a b = record { limit = omega (arith, a.limit, b.limit); holds = omega (arith, a.holds, b.holds) }

pub looser_first : (ps : List Plan) {p : Plan} → p ≡ plan_at ps 0 → LooserTo ps p 1
looser_first ps e k h = let first : k ≡ 0 = omega arith in rw (e, first) (looser_itself (plan_at ps 0))

pub looser_next :
    (ps : List Plan) (i : ℕ) {p q : Plan} (r : Plan) → LooserTo ps p i → q ≡ plan_at ps i → Looser r p → Looser r q → LooserTo ps r (i + 1)
looser_next ps i r all is a b k h = by (eq-or-lt_of_le {n = k} {m = i} (omega arith))
  where
    by : (k ≡ i) ⊎ (k < i) → Looser r (plan_at ps k)
    by (inl same) = rw (same, sym is) b
    by (inr before) = looser_than a (all k before)
