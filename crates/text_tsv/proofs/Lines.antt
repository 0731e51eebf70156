-- The lines of a text whose first line has begun already: the bytes of the beginning stand in front of the first line that
-- is left. A byte that is read moves from the text to the beginning, until an LF ends the line.
-- Assumes nothing.
use Rattle.std.proofs.Common.{◌≡◌, ℕ, true, false, eqb, List, [], ◌∷◌, ◌++◌, refl, ap}
use Rattle.text_tsv.specs.Text.{Line, lf, longer, lines}

abbrev pub ended_line : List ℕ → Line
ended_line p = record { bytes = p; ended = true }

abbrev pub unended_line : List ℕ → Line
unended_line p = record { bytes = p; ended = false }

-- bytes in front of the first line
pub continued : List ℕ → List Line → List Line
continued [] ls = ls
continued (b ∷ p) ls = longer b (continued p ls)

continued_longer : (p : List ℕ) (b : ℕ) (ls : List Line) → continued p (longer b ls) ≡ continued (p ++ (b ∷ [])) ls
unfolding continued
continued_longer [] b ls = refl
continued_longer (x ∷ p) b ls = ap (longer x) (continued_longer p b ls)

continued_ended : (p : List ℕ) (ls : List Line) → continued p (ended_line [] ∷ ls) ≡ ended_line p ∷ ls
unfolding continued longer
continued_ended [] ls = refl
continued_ended (x ∷ p) ls = ap (longer x) (continued_ended p ls)

-- a line that has not begun
pub unbegun : (ls : List Line) → continued [] ls ≡ ls
unfolding continued
unbegun ls = refl

-- a beginning with nothing after it is a line without its LF
pub continued_none : (b : ℕ) (p : List ℕ) → continued (b ∷ p) [] ≡ unended_line (b ∷ p) ∷ []
unfolding continued longer
continued_none b [] = refl
continued_none b (x ∷ p) = ap (longer b) (continued_none x p)

-- an empty text has no lines
pub lines_none : lines [] ≡ []
unfolding lines
lines_none = refl

module _ (p : List ℕ) (b : ℕ) (s : List ℕ) where
  pub lines_lf : eqb b lf ≡ true → continued p (lines (b ∷ s)) ≡ ended_line p ∷ lines s
  unfolding lines
  lines_lf e = rw e (continued_ended p (lines s))

  pub lines_other : eqb b lf ≡ false → continued p (lines (b ∷ s)) ≡ continued (p ++ (b ∷ [])) (lines s)
  unfolding lines
  lines_other e = rw e (continued_longer p b (lines s))
