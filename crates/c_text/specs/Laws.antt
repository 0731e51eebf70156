-- The laws of the two numbers that a host receives for a text: the result at place 0 and the bytes written at place 1.
use Rattle.std.specs.Prelude.{ℕ, ◌≡◌, List, length, get_or, Ok, Err}
use Rattle.text_transcript.specs.declared.TooShort.TheVariants.{Columns, Output}
use Rattle.c_text.specs.Text.{two}

-- a result and a number of bytes at their places
pub record Places (result bytes : ℕ) (l : List ℕ) : Type 0 where
  pub how_many : length l ≡ 2
  pub at_0 : get_or l 0 0 ≡ result
  pub at_1 : get_or l 1 0 ≡ bytes

pub record Laws : Type 0 where
  -- written
  pub written_0 : (bytes : ℕ) → Places 0 bytes (two (Ok bytes))
  -- columns too short
  pub short_table_1 : Places 1 0 (two (Err Columns))
  -- output too short
  pub short_output_2 : Places 2 0 (two (Err Output))
