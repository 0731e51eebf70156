-- The laws of a piece read and answered: what its counts come to, and that the output suffices.
use Rattle.std.specs.Prelude.{◌≡◌, ℕ, ◌+◌, ◌^◌, ◌<◌, ◌≤◌, List, length, take}
use Rattle.text_session.specs.Stream.{State, said, ending}
use Rattle.text_io.specs.Piece.{Ample, Counted}

pub record PieceLaws : Type 0 where
  -- counts add up; and below 2^64 a count that began at 0 is the number of bytes itself
  pub counted_on : {count m mid n sum : ℕ} → Counted count m mid → Counted mid n sum → Counted count (m + n) sum
  pub counted_exactly : {n count : ℕ} → n < 2 ^ 64 → count < 2 ^ 64 → Counted 0 n count → count ≡ n
  -- an ample output has room for what is said of any first bytes of a piece, in any state, and for what is said at the input's end
  pub answers_fit : {piece out : List ℕ} → Ample piece out → (σ : State) (n : ℕ) → length (said σ (take n piece)) ≤ length out
  pub end_fits : {piece out : List ℕ} → Ample piece out → (σ : State) → length (ending σ) ≤ length out
