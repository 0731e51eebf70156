-- Blocks in which no slot is free under the plans lent, since none is empty and no record is free by any of the plans.
-- Assumes nothing.
use mathlib.Core.Path.{◌≡◌, refl, ap, ap₂}
use mathlib.Core.Bool.{Bool, true, false, ◌&&◌}
use mathlib.Core.List.{List}
use Prim.Native.Nat.{ℕ, ◌<◌}
use lib.ListN.{length, get_or}
use Rattle.ticks.specs.declared.plan.Plan.{Plan}
use Rattle.plans.specs.Plans.{plans_of, known, plan_at, asked, Lent, Looser}
use Rattle.plans.proofs.Lent.{lent_below}
use Rattle.rule_token_bucket.specs.TokenBucket.{token_bucket}
use Rattle.table.specs.Slots.{carries, vacant, NoneFrom}
use Rattle.table.proofs.Slots.{none_vacant}
use Rattle.table_token_bucket.specs.Table.{bucket_at, records, Table, columns, rule, NoneFree}

-- what is free by none of the plans that are lent is not free, whatever its plan is
free_by_none :
    (ps : List Plan) (number : ℕ) (free : Plan → Bool) → ((k : ℕ) → k < length ps → free (plan_at ps k) ≡ false) →
    (known ps number && free (plan_at ps number)) ≡ false
free_by_none ps number free none = by (known ps number) refl
  where
    by : (t : Bool) → known ps number ≡ t → (known ps number && free (plan_at ps number)) ≡ false
    by true e = ap₂ (λ (a b : Bool). a && b) e (none number (lent_below ps number e))
    by false e = ap (λ (t : Bool). t && free (plan_at ps number)) e

pub block_taken :
    (ps : List Plan) (asked at : ℕ) (t : Table) {loosest : Plan} {from to : ℕ} → Lent ps →
    ((k : ℕ) → k < length ps → Looser loosest (plan_at ps k)) → NoneFrom (carries t.table.ids 0) from to →
    NoneFree loosest at t.table.levels t.table.lasts from to →
    NoneFrom (vacant rule columns (plans_of ps asked) at t) from to
unfolding records
block_taken ps asked at t lent looser held owing =
    none_vacant rule columns (plans_of ps asked) at t _ _ held (λ j above below.
    free_by_none ps (get_or t.numbers j 0) (λ q. token_bucket.free q at (bucket_at t.table.levels t.table.lasts j))
    (λ k h. owing (plan_at ps k) (lent.each k h) (looser k h) j above below))
