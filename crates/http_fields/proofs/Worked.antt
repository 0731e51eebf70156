-- The fields of the answers in `specs/Worked`, computed.
-- Assumes nothing.
use mathlib.Core.Path.{◌≡◌, refl}
use Rattle.ticks.specs.Grains.{capacity, div_up, one_to, plan_ok}
use Rattle.http_fields.specs.Fields.{seconds, window_of, silent, planned, reported, fields_of}
use Rattle.http_fields.specs.Worked.{examples, expected}

pub worked : examples ≡ expected
unfolding capacity div_up one_to plan_ok seconds window_of silent planned reported fields_of examples expected
worked = refl
