-- The page of laws holds.
-- Assumes nothing.
use Rattle.std.proofs.Common.{◌≡◌, ℕ, ◌^◌, ◌<◌, ◌≤◌, List, length, take, arith, length-take}
use Rattle.text_session.specs.Stream.{State, said, ending}
use Rattle.text_session.proofs.Lengths.{said_most, ending_most, endings_most}
use Rattle.text_io.specs.Piece.{Ample, Counted}
use Rattle.text_io.specs.Laws.{PieceLaws}
use Rattle.text_io.proofs.Counting.{counted_on}

counted_exactly : {n count : ℕ} → n < 2 ^ 64 → count < 2 ^ 64 → Counted 0 n count → count ≡ n
counted_exactly h k counted = omega (arith, counted.modulo)

answers_fit : {piece out : List ℕ} → Ample piece out → (σ : State) (n : ℕ) → length (said σ (take n piece)) ≤ length out
answers_fit {piece} ample σ n =
    omega (arith, said_most σ (take n piece), endings_most (take n piece), length-take n piece, ample.each_byte)

end_fits : {piece out : List ℕ} → Ample piece out → (σ : State) → length (ending σ) ≤ length out
end_fits ample σ = omega (arith, ending_most σ, ample.one_line)

pub piece_laws : PieceLaws
piece_laws =
    record {
      counted_on = counted_on;
      counted_exactly = counted_exactly;
      answers_fit = answers_fit;
      end_fits = end_fits;
    }
