-- `c_http::railcadence_http_fields` meets its contract: the fields of the five numbers that were handed over.
-- Assumes nothing.
use mathlib.Core.Path.{ap, ◌∙◌}
use Rattle.http_fields.specs.declared.Fields.{Fields}
use Rattle.c_http.specs.Told.{numbers_in, told}
use Rattle.std.proofs.Common.{ap}
use Rattle.c_http.proofs.railcadence_http_fields.Goals as goal

pub returns : goal.returns
unfolding numbers_in
returns c = c.told.ensures ∙ ap (λ (f : Fields). told f) c.header_fields.ensures
