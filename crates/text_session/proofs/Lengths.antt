-- How long the output can get: a byte adds a line of at most 105 bytes only if it is an LF, and the end of the input at most
-- one more.
-- Assumes nothing.
use mathlib.Core.Path.{◌≡◌, refl, sym}
use mathlib.Core.Bool.{Bool, true, false, cond}
use mathlib.Core.List.{List, [], ◌∷◌, ◌++◌}
use Prim.Native.Nat.{ℕ, suc, ◌+◌, ◌*◌, ◌<◌, ◌≤◌}
use native.Mathlib.Omega.{arith}
use lib.Dec.{eqb}
use lib.ListN.{length, drop, length-append}
use Rattle.std.proofs.Common.{drop_of_length-le, get_or}
use Rattle.std.specs.List.{count_by}
use Rattle.std.proofs.lemmas.List.Recursion.{is_count_by}
use Rattle.text_tsv.specs.Text.{lf}
use Rattle.text_tsv.proofs.Scanning.{rest_of}
use Rattle.text_protocol.specs.Reply.{most_reply}
use Rattle.text_protocol.proofs.Lengths.{line_most}
use Rattle.std.specs.Prelude.{Option, Some, None}
use Rattle.rate.specs.declared.answer.Numbers as numbers
use Rattle.text_session.specs.Session.{unended}
use Rattle.text_session.specs.Stream.{State, at_lf, text_of, says, moved, said, is_held, ending, endings}

-- a reply is no more than a line
pub reply_most : (r : Option numbers.Numbers) → length (text_of r) ≤ most_reply
unfolding text_of
reply_most None = omega arith
reply_most (Some n) = line_most n

pub said_most : (σ : State) (s : List ℕ) → length (said σ s) ≤ most_reply * endings s
unfolding said endings says
said_most σ [] = omega arith
said_most σ (b ∷ s) = by (eqb b lf) (said_most (moved σ b) s)
  where
    by :
        (t : Bool) → length (said (moved σ b) s) ≤ most_reply * endings s →
        length (cond t (text_of (at_lf σ).reply) [] ++ said (moved σ b) s) ≤ most_reply * (cond t 1 0 + endings s)
    by true h = simp length-append (omega (arith, reply_most (at_lf σ).reply))
    by false h = omega arith

pub ending_most : (σ : State) → length (ending σ) ≤ most_reply
unfolding ending
ending_most σ = by (is_held σ.held)
  where
    by : (t : Bool) → length (cond t (text_of (unended σ.stage)) []) ≤ most_reply
    by true = reply_most (unended σ.stage)
    by false = omega arith

pub endings_most : (s : List ℕ) → endings s ≤ length s
unfolding endings
endings_most [] = omega arith
endings_most (b ∷ s) = by (eqb b lf) (endings_most s)
  where
    by : (t : Bool) → endings s ≤ length s → cond t 1 0 + endings s ≤ suc (length s)
    by true h = omega arith
    by false h = omega arith

-- the lines that end, from a place on
module _ (s : List ℕ) (i : ℕ) where
  pub endings_end : length s ≤ i → endings (drop i s) ≡ 0
  unfolding endings
  endings_end h = rw (drop_of_length-le s h)

  pub endings_next : i < length s → endings (drop i s) ≡ cond (eqb (get_or s i 0) lf) 1 0 + endings (drop (i + 1) s)
  unfolding endings
  endings_next h = rw (rest_of s i h)

-- the lines that end are the bytes that are an LF
pub endings_count : (s : List ℕ) → count_by (λ (b : ℕ). eqb b lf) s ≡ endings s
unfolding endings
endings_count s = sym (is_count_by endings (λ (b : ℕ). eqb b lf) refl (λ b s. by (eqb b lf) s) s)
  where
    by : (t : Bool) (s : List ℕ) → cond t 1 0 + endings s ≡ cond t (1 + endings s) (endings s)
    by true s = refl
    by false s = omega arith
