-- The laws of this crate: the token bucket has the backlog law (`Lawful`, rate), and what is stored means what document 01 says, for
-- any stored numbers. proofs/Laws shows them.
use Rattle.std.specs.Prelude.{◌≡◌, ℕ, ◌+◌, ◌-◌, ◌<◌, ◌≤◌, min, true, false, ◌&&◌, nat_le}
use Rattle.ticks.specs.declared.plan.Plan.{Plan}
use Rattle.ticks.specs.Grains.{ticks_in, price, capacity}
use Rattle.rate.specs.Lawful.{Lawful}
use Rattle.rule_token_bucket.specs.declared.Bucket.{Bucket}
use Rattle.rule_token_bucket.specs.TokenBucket.{token_bucket}

pub record TokenBucketLaws : Type 0 where
  pub lawful : Lawful token_bucket
  -- a record is impossible exactly if level > P×B or last > moment
  pub possible : (p : Plan) (at : ℕ) (b : Bucket) → b.level.0 ≤ capacity p → b.last.0 ≤ at → token_bucket.sound p at b ≡ true
  pub impossible_level : (p : Plan) (at : ℕ) (b : Bucket) → capacity p < b.level.0 → token_bucket.sound p at b ≡ false
  pub impossible_last : (p : Plan) (at : ℕ) (b : Bucket) → at < b.last.0 → token_bucket.sound p at b ≡ false
  -- free exactly if last ≤ moment, level ≤ P×B, and level + (moment − last)×N ≥ P×B
  pub free_test :
      (p : Plan) (at : ℕ) (b : Bucket) →
      token_bucket.free p at b
      ≡ (nat_le b.last.0 at && (nat_le b.level.0 (capacity p) && nat_le (capacity p) (b.level.0 + ticks_in p (at - b.last.0))))
  -- after an admission the level is level now − P×cost, and last the moment
  pub spent_level :
      (p : Plan) (at : ℕ) (b : Bucket) (cost : ℕ) →
      (token_bucket.spend p at b cost).level.0 ≡ min (capacity p) (b.level.0 + ticks_in p (at - b.last.0)) - price p cost
  pub spent_last : (p : Plan) (at : ℕ) (b : Bucket) (cost : ℕ) → (token_bucket.spend p at b cost).last.0 ≡ at
