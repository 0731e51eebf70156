-- What the fields are, in each case of an answer.
-- Assumes nothing.
use mathlib.Core.Path.{◌≡◌}
use mathlib.Core.Bool.{true, false}
use Prim.Native.Nat.{ℕ}
use lib.Dec.{eqb}
use Rattle.rate.specs.declared.answer.Numbers.{Numbers}
use Rattle.ticks.specs.declared.plan.Plan.{Plan}
use Rattle.ticks.specs.Grains.{plan_ok}
use Rattle.http_fields.specs.Fields.{seconds, silent, planned, reported, fields_of}

module _ (p : Plan) (at : ℕ) (a : Numbers) where
  -- a plan outside its limits
  pub bad_plan : plan_ok p ≡ false → fields_of p at a ≡ silent
  unfolding fields_of
  bad_plan e = rw e

  -- number 0
  pub admitted : plan_ok p ≡ true → eqb a.number 0 ≡ true → fields_of p at a ≡ reported p at a 0
  unfolding fields_of
  admitted e z = rw (e, z)

  -- number 8
  pub throttled :
      plan_ok p ≡ true → eqb a.number 0 ≡ false → eqb a.number 8 ≡ true → fields_of p at a ≡ reported p at a (seconds a.wait)
  unfolding fields_of
  throttled e z n = rw (e, z, n)

  -- any other number
  pub refused : plan_ok p ≡ true → eqb a.number 0 ≡ false → eqb a.number 8 ≡ false → fields_of p at a ≡ planned p
  unfolding fields_of
  refused e z n = rw (e, z, n)
