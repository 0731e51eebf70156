-- The Generic Cell Rate Algorithm (document 01's paced engine). Its record is the TAT, in ticks; m = moment×N.
use Rattle.std.specs.Prelude.{ℕ, ◌+◌, ◌-◌, max, Bool, leb}
use Rattle.ticks.specs.declared.plan.Plan.{Plan}
use Rattle.ticks.specs.declared.units.Ticks.{Ticks}
use Rattle.ticks.specs.Grains.{ticks_in, price, capacity}
use Rattle.rate.specs.Engine.{Engine}

-- a TAT of 0 owes nothing at any moment
unfoldable pub fresh : Plan → ℕ → Ticks
fresh p at = record { 0 = 0 }

-- impossible: TAT > m + P×B
unfoldable pub sound : Plan → ℕ → Ticks → Bool
sound p at tat = leb tat.0 (ticks_in p at + capacity p)

-- free: TAT ≤ moment×N
unfoldable pub free : Plan → ℕ → Ticks → Bool
free p at tat = leb tat.0 (ticks_in p at)

-- t = the larger of TAT and m
unfoldable pub later : Plan → ℕ → Ticks → ℕ
later p at tat = max tat.0 (ticks_in p at)

-- the debt is t − m
unfoldable pub backlog : Plan → ℕ → Ticks → ℕ
backlog p at tat = later p at tat - ticks_in p at

-- admitted exactly if t + P×cost − P×B ≤ m
unfoldable pub admits : Plan → ℕ → Ticks → ℕ → Bool
admits p at tat cost = leb (later p at tat + price p cost - capacity p) (ticks_in p at)

-- then TAT becomes t + P×cost
unfoldable pub spend : Plan → ℕ → Ticks → ℕ → Ticks
spend p at tat cost = record { 0 = later p at tat + price p cost }

unfoldable pub gcra : Engine Ticks
gcra =
    record {
      fresh = fresh;
      sound = sound;
      free = free;
      backlog = backlog;
      admits = admits;
      spend = spend;
    }
