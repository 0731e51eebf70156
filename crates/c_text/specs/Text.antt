-- The two numbers that a host receives for a text: 0 written, 1 columns too short, 2 output too short; and how many bytes.
use Rattle.std.specs.Prelude.{ℕ, List, [], ◌∷◌, Result, Ok, Err}
use Rattle.text_transcript.specs.declared.TooShort.{TooShort}
use Rattle.text_transcript.specs.declared.TooShort.TheVariants.{Columns, Output}

unfoldable pub two : Result ℕ TooShort → List ℕ
two (Ok bytes) = 0 ∷ bytes ∷ []
two (Err Columns) = 1 ∷ 0 ∷ []
two (Err Output) = 2 ∷ 0 ∷ []
