-- What the token bucket stores means what document 01 says. That it has the backlog law is shown in specs/Lawful.
-- Assumes nothing.
use Rattle.std.proofs.Common.{◌≡◌, ℕ, ◌+◌, ◌-◌, ◌<◌, ◌≤◌, min, false, ◌&&◌, leb, refl, le-leb, leb-true}
use mathlib.Core.Bool.{and-false}
use borrow.Author.Tests.{lt-leb}
use Rattle.ticks.specs.declared.plan.Plan.{Plan}
use Rattle.ticks.specs.Grains.{ticks_in, price, capacity}
use Rattle.ticks.proofs.Tests.{by_leb}
use Rattle.rule_token_bucket.specs.declared.Bucket.{Bucket}
use Rattle.rule_token_bucket.specs.TokenBucket.{token_bucket, sound, refilled, free, level_now, spend}
use Rattle.rule_token_bucket.specs.Laws.{TokenBucketLaws}
pub use Rattle.rule_token_bucket.specs.Lawful.{token_bucket_lawful}

-- a record is not free if its level, where the record is possible, is still below P×B
pub lacks_not_free :
    (p : Plan) (at : ℕ) (b : Bucket) →
    (b.last.0 ≤ at → b.level.0 ≤ capacity p → b.level.0 + ticks_in p (at - b.last.0) < capacity p) →
    token_bucket.free p at b ≡ false
unfolding token_bucket free refilled
lacks_not_free p at b lacks =
    by_leb b.last.0 at
    (λ past. by_leb b.level.0 (capacity p)
    (λ low. rw (lt-leb _ _ (lacks (leb-true _ _ past) (leb-true _ _ low)), and-false, and-false))
    (λ high. rw (high, and-false)))
    (λ later. rw later)

-- what `free` tests
free_test :
    (p : Plan) (at : ℕ) (b : Bucket) →
    token_bucket.free p at b
    ≡ (leb b.last.0 at && (leb b.level.0 (capacity p) && leb (capacity p) (b.level.0 + ticks_in p (at - b.last.0))))
unfolding token_bucket free refilled
free_test p at b = refl

-- what is stored after an admission
spent_level :
    (p : Plan) (at : ℕ) (b : Bucket) (cost : ℕ) →
    (token_bucket.spend p at b cost).level.0 ≡ min (capacity p) (b.level.0 + ticks_in p (at - b.last.0)) - price p cost
unfolding token_bucket spend level_now refilled
spent_level p at b cost = refl

spent_last : (p : Plan) (at : ℕ) (b : Bucket) (cost : ℕ) → (token_bucket.spend p at b cost).last.0 ≡ at
unfolding token_bucket spend
spent_last p at b cost = refl

pub token_bucket_laws : TokenBucketLaws
unfolding token_bucket sound
token_bucket_laws =
    record {
      lawful = token_bucket_lawful;
      possible = λ p at b level last. rw (le-leb b.level.0 (capacity p) level, le-leb b.last.0 at last);
      impossible_level = λ p at b h. rw (lt-leb b.level.0 (capacity p) h);
      impossible_last = λ p at b h. rw (lt-leb b.last.0 at h) (and-false (leb b.level.0 (capacity p)));
      free_test = free_test;
      spent_level = spent_level;
      spent_last = spent_last;
    }
