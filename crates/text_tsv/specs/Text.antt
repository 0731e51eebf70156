-- The tabbed text (document 01): lines end with LF, fields are parted by one tab. A text is the list of its bytes.
use Rattle.std.specs.Prelude.{ℕ, Bool, true, false, cond, ◌&&◌, List, [], ◌∷◌, eqb}
use Prim.Native.Char.{code}
use Prim.Native.String.{String}
use Prim.Native.String as string

abbrev pub lf : ℕ
lf = 10

abbrev pub tab : ℕ
tab = 9

-- the bytes of a text that is ASCII
abbrev pub bytes_of : String → List ℕ
bytes_of string.[] = []
bytes_of (string.◌∷◌ c s) = code c ∷ bytes_of s

-- a line without its LF, and whether it had one
pub record Line : Type 0 where
  pub bytes : List ℕ
  pub ended : Bool

-- a byte in front of the first line
unfoldable pub longer : ℕ → List Line → List Line
longer b [] = record { bytes = b ∷ []; ended = false } ∷ []
longer b (l ∷ ls) = record { bytes = b ∷ l.bytes; ended = l.ended } ∷ ls

-- the lines of a text: each runs to its LF, or to the end of the text; after a final LF there is none
unfoldable pub lines : List ℕ → List Line
lines [] = []
lines (b ∷ s) = cond (eqb b lf) (record { bytes = []; ended = true } ∷ lines s) (longer b (lines s))

-- a byte in front of the first field
unfoldable pub wider : ℕ → List (List ℕ) → List (List ℕ)
wider b [] = (b ∷ []) ∷ []
wider b (f ∷ fs) = (b ∷ f) ∷ fs

-- the fields of a line: one more than it has tabs
unfoldable pub fields : List ℕ → List (List ℕ)
fields [] = [] ∷ []
fields (b ∷ s) = cond (eqb b tab) ([] ∷ fields s) (wider b (fields s))

-- what stands before the first such byte, or all of it
unfoldable pub up_to : ℕ → List ℕ → List ℕ
up_to b [] = []
up_to b (x ∷ s) = cond (eqb x b) [] (x ∷ up_to b s)

-- the same bytes
unfoldable pub same : List ℕ → List ℕ → Bool
same [] [] = true
same [] (b ∷ t) = false
same (a ∷ s) [] = false
same (a ∷ s) (b ∷ t) = eqb a b && same s t
