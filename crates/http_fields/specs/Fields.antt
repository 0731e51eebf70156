-- What an HTTP response says of an answer, in whole seconds.
use Rattle.std.specs.Prelude.{ℕ, ◌-◌, cond, eqb}
use Rattle.rate.specs.declared.answer.Numbers.{Numbers}
use Rattle.ticks.specs.declared.plan.Plan.{Plan}
use Rattle.ticks.specs.Grains.{capacity, div_up, plan_ok}
use Rattle.http_fields.specs.declared.Fields.{Fields}

-- the least whole seconds that cover so many milliseconds
unfoldable pub seconds : ℕ → ℕ
seconds span = div_up span 1000

-- the least whole seconds in which a whole burst is earned, which takes P×B/N milliseconds
unfoldable pub window_of : Plan → ℕ
window_of p = seconds (div_up (capacity p) p.limit)

-- nothing to say
unfoldable pub silent : Fields
silent = record { quota = 0; window = 0; remaining = 0; reset = 0; retry_after = 0 }

-- the plan alone, beside a refusal
unfoldable pub planned : Plan → Fields
planned p = record { quota = p.burst; window = window_of p; remaining = 0; reset = 0; retry_after = 0 }

-- .. and what is left, the seconds until the reset, and those to wait
unfoldable pub reported : Plan → ℕ → Numbers → ℕ → Fields
reported p at a wait =
    record { quota = p.burst; window = window_of p; remaining = a.left; reset = seconds (a.reset - at); retry_after = wait }

-- the quota is the burst. Left and reset are told under 0 and 8, the wait under 8 alone; a plan outside its limits has no fields
unfoldable pub fields_of : Plan → ℕ → Numbers → Fields
fields_of p at a =
    cond (plan_ok p)
    (cond (eqb a.number 0) (reported p at a 0)
    (cond (eqb a.number 8) (reported p at a (seconds a.wait)) (planned p)))
    silent
