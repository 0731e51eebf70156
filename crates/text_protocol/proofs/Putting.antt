-- Bytes put to an output one after the other come to the bytes put together.
-- Assumes nothing.
use mathlib.Core.Path.{◌≡◌, sym, ap, ap₂, ◌∙◌}
use mathlib.Core.List.{List, ◌++◌}
use Prim.Native.Nat.{ℕ, ◌+◌}
use native.Mathlib.Omega.{arith}
use lib.ListN.{length, length-append}
use lib.Seq.{sets, length-sets}
use Rattle.text_tsv.proofs.Digits.{cell_length}
use Rattle.text_tsv.proofs.Scanning.{sets_append}

-- the bytes stand in the output from a place on, and the next byte goes to w
pub record Put (l : List ℕ) (at : ℕ) (s : List ℕ) (w : ℕ) (out : List ℕ) : Type 0 where
  pub place : w ≡ at + length s
  pub bytes : out ≡ sets l at s

module _ {l : List ℕ} {at : ℕ} {a : List ℕ} {w : ℕ} {out : List ℕ} (p : Put l at a w out) where
  pub put_length : length out ≡ length l
  put_length = ap (λ (s : List ℕ). length s) p.bytes ∙ length-sets l at a

  pub put_then : (b : List ℕ) {w' : ℕ} {out' : List ℕ} → w' ≡ w + length b → out' ≡ sets out w b → Put l at (a ++ b) w' out'
  put_then b e f =
      record {
        place = omega (arith, p.place, length-append a b);
        bytes = f ∙ ap₂ (λ (s : List ℕ) (k : ℕ). sets s k b) p.bytes p.place ∙ sym (sets_append l at a b);
      }

-- what a line that is put field by field owes at each
pub ruleset by_cells = (length-append, cell_length, sets_append, length-sets)
