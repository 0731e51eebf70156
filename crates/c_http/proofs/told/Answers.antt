-- `c_http::told` meets its contract: the order is the definition's.
-- Assumes nothing.
use mathlib.Core.Path.{refl}
use Rattle.c_http.specs.Told.{told}
use Rattle.c_http.proofs.told.Goals as goal

pub returns : goal.returns
unfolding told
returns c = refl
