-- The laws of `specs/Laws`, by computing.
-- Assumes nothing.
use mathlib.Core.Path.{refl}
use Rattle.c_text.specs.Text.{two}
use Rattle.c_text.specs.Laws.{Laws}

pub laws : Laws
unfolding two
laws =
    record {
      written_0 = λ bytes. record { how_many = refl; at_0 = refl; at_1 = refl };
      short_table_1 = record { how_many = refl; at_0 = refl; at_1 = refl };
      short_output_2 = record { how_many = refl; at_0 = refl; at_1 = refl };
    }
