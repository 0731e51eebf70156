-- The fields of some answers: three of document 01's lines, 3 units a second with a burst of 2; a unit a minute with a burst
-- of 12, at whole seconds and a millisecond beside them; a wait that would end beyond the clock; and a plan outside its limits.
use Rattle.std.specs.Prelude.{List, [], ◌∷◌, ℕ}
use Rattle.ticks.specs.declared.plan.Plan.{Plan}
use Rattle.rate.specs.declared.answer.Numbers.{Numbers}
use Rattle.http_fields.specs.declared.Fields.{Fields}
use Rattle.http_fields.specs.Fields.{fields_of}

abbrev second : Plan
second = record { limit = 3; period = 1000; burst = 2 }

abbrev minute : Plan
minute = record { limit = 60; period = 3600000; burst = 12 }

abbrev none : Plan
none = record { limit = 3; period = 1000; burst = 0 }

abbrev numbers : ℕ → ℕ → ℕ → ℕ → Numbers
numbers number left reset wait = record { number = number; subscriber = 7; left = left; reset = reset; wait = wait }

abbrev fields : ℕ → ℕ → ℕ → ℕ → ℕ → Fields
fields quota window remaining reset wait =
    record { quota = quota; window = window; remaining = remaining; reset = reset; retry_after = wait }

unfoldable pub examples : List Fields
examples =
    fields_of second 1000 (numbers 0 1 1334 0)
    ∷ fields_of second 1000 (numbers 8 0 1667 334)
    ∷ fields_of second 1334 (numbers 6 0 0 0)
    ∷ fields_of minute 0 (numbers 8 0 719999 59999)
    ∷ fields_of minute 0 (numbers 8 0 720000 60000)
    ∷ fields_of minute 0 (numbers 8 0 720001 60001)
    ∷ fields_of minute 4398046511103 (numbers 13 0 0 0)
    ∷ fields_of none 1000 (numbers 1 0 0 0)
    ∷ []

unfoldable pub expected : List Fields
expected =
    fields 2 1 1 1 0
    ∷ fields 2 1 0 1 1
    ∷ fields 2 1 0 0 0
    ∷ fields 12 720 0 720 60
    ∷ fields 12 720 0 720 60
    ∷ fields 12 720 0 721 61
    ∷ fields 12 720 0 0 0
    ∷ fields 0 0 0 0 0
    ∷ []
