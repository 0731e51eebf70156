-- The token bucket (document 01's bucket engine). Its record is a level, in ticks, and the moment of the last admission.
use Rattle.std.specs.Prelude.{ℕ, ◌+◌, ◌-◌, min, Bool, ◌&&◌, nat_le}
use Rattle.ticks.specs.declared.plan.Plan.{Plan}
use Rattle.rule_token_bucket.specs.declared.Bucket.{Bucket}
use Rattle.ticks.specs.Grains.{ticks_in, price, capacity}
use Rattle.rate.specs.Engine.{Engine}

-- without a record the bucket is full
unfoldable pub fresh : Plan → ℕ → Bucket
fresh p at = record { level = record { 0 = capacity p }; last = record { 0 = at } }

-- impossible: level > P×B or last > moment
unfoldable pub sound : Plan → ℕ → Bucket → Bool
sound p at b = nat_le b.level.0 (capacity p) && nat_le b.last.0 at

-- level + (moment − last)×N
unfoldable pub refilled : Plan → ℕ → Bucket → ℕ
refilled p at b = b.level.0 + ticks_in p (at - b.last.0)

-- free: last ≤ moment, level ≤ P×B, and level + (moment − last)×N ≥ P×B
unfoldable pub free : Plan → ℕ → Bucket → Bool
free p at b = nat_le b.last.0 at && (nat_le b.level.0 (capacity p) && nat_le (capacity p) (refilled p at b))

-- level now = the smaller of P×B and level + (moment − last)×N
unfoldable pub level_now : Plan → ℕ → Bucket → ℕ
level_now p at b = min (capacity p) (refilled p at b)

-- the debt is P×B minus level now
unfoldable pub backlog : Plan → ℕ → Bucket → ℕ
backlog p at b = capacity p - level_now p at b

-- admitted exactly if level now ≥ P×cost
unfoldable pub admits : Plan → ℕ → Bucket → ℕ → Bool
admits p at b cost = nat_le (price p cost) (level_now p at b)

-- then level becomes level now − P×cost and last becomes the moment
unfoldable pub spend : Plan → ℕ → Bucket → ℕ → Bucket
spend p at b cost = record { level = record { 0 = level_now p at b - price p cost }; last = record { 0 = at } }

unfoldable pub token_bucket : Engine Bucket
token_bucket =
    record {
      fresh = fresh;
      sound = sound;
      free = free;
      backlog = backlog;
      admits = admits;
      spend = spend;
    }
