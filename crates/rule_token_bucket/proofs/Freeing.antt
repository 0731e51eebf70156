-- Which records are free under the plans lent: each by its own plan; and none by a plan that is no looser than one by which its
-- bucket is not full.
-- Assumes nothing.
use Rattle.std.proofs.Common.{◌≡◌, ℕ, ◌+◌, ◌-◌, ◌<◌, ◌≤◌, Bool, true, false, not, ◌&&◌, List, sym, ap, ◌∙◌, ap₂, arith}
use borrow.Author.Tests.{not-true, not-false}
use Rattle.ticks.specs.declared.plan.Plan.{Plan}
use Rattle.ticks.specs.Grains.{ticks_in, capacity}
use Rattle.ticks.proofs.Products.{ticks_larger}
use Rattle.plans.specs.Plans.{known, plan_at, Looser}
use Rattle.rule_token_bucket.specs.declared.Bucket.{Bucket}
use Rattle.rule_token_bucket.specs.TokenBucket.{token_bucket}
use Rattle.rule_token_bucket.proofs.Laws.{lacks_not_free}

-- by a looser plan no less comes back, and a full bucket is no more
pub lacks_no_looser :
    (p q : Plan) (at : ℕ) (b : Bucket) → Looser p q →
    (b.last.0 ≤ at → b.level.0 ≤ capacity q → b.level.0 + ticks_in p (at - b.last.0) < capacity p) →
    token_bucket.free q at b ≡ false
lacks_no_looser p q at b l lacks =
    lacks_not_free q at b (λ past low. omega (arith, lacks past low, l.holds, ticks_larger q p (at - b.last.0) l.limit))

module _ (ps : List Plan) (at number : ℕ) (b : Bucket) {lent : Bool} (says : lent ≡ known ps number) where
  pub unlent_not_free : not lent ≡ true → false ≡ (known ps number && token_bucket.free (plan_at ps number) at b)
  unlent_not_free n = ap (λ (t : Bool). t && token_bucket.free (plan_at ps number) at b) (sym (not-true _ n) ∙ says)

  pub lent_free :
      not lent ≡ false → {p : Plan} → p ≡ plan_at ps number → {t : Bool} → t ≡ token_bucket.free p at b →
      t ≡ (known ps number && token_bucket.free (plan_at ps number) at b)
  lent_free n is e =
      e ∙ ap₂ (λ (t : Bool) (p : Plan). t && token_bucket.free p at b) (sym (not-false _ n) ∙ says) is
