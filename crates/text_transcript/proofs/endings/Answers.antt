-- `text_transcript::endings` meets its contract: those counted, and those from here on, are all.
-- Assumes nothing.
use Rattle.std.proofs.Common.{◌≡◌, ℕ, ◌+◌, ◌<◌, Bool, true, false, cond, eqb, nat_eq, List, length, drop, get_or, slice_index_or, refl, ap, ◌∙◌, arith}
use mir.Val.{bool_byte}
use Rattle.text_tsv.specs.Text.{lf}
use Rattle.text_session.specs.Stream.{endings}
use Rattle.text_session.proofs.Lengths.{endings_most, endings_end, endings_next}
use Rattle.text_transcript.proofs.endings.Goals as goal

-- a byte that is an LF, as the code counts it
counted : (t : Bool) → cond t 1 0 ≡ bool_byte t
counted true = refl
counted false = refl

-- those from a byte on: that byte, if it is an LF, and those after it
next : (s : List ℕ) (i : ℕ) → i < length s → endings (drop i s) ≡ bool_byte (nat_eq (slice_index_or s i 0) 10) + endings (drop (i + 1) s)
next s i h = endings_next s i h ∙ ap (λ (n : ℕ). n + endings (drop (i + 1) s)) (counted (eqb (get_or s i 0) lf))

pub loop-byte-init : goal.loop-byte-init
loop-byte-init c = omega arith

pub overflow_add-count : goal.overflow_add-count
overflow_add-count c =
    omega (arith, c.loop-byte.invariant, next c.args.text.now c.loop-byte.byte-index c.loop-byte-test.true, endings_most c.args.text.now)

pub loop-byte-preserved : goal.loop-byte-preserved
loop-byte-preserved c = omega (arith, c.loop-byte.invariant, next c.args.text.now c.loop-byte.byte-index c.loop-byte-test.true)

pub returns : goal.returns
returns c = omega (arith, c.loop-byte.invariant, endings_end c.args.text.now c.loop-byte.byte-index c.loop-byte-test.false)
