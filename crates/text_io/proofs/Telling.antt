-- What a read's answer tells: each is a case of its definition.
-- Assumes nothing.
use Rattle.std.proofs.Common.{◌≡◌, ℕ, ◌≤◌, List, length, subst}
use Rattle.std.specs.Prelude.{Option, Some, None, Ok, Err}
use Rattle.text_io.specs.declared.Unread.{Unread}
use Rattle.text_io.specs.Piece.{Counted, Took}

module _ (piece : List ℕ) (taken taken' : ℕ) where
  pub took_got :
      (o : Option ℕ) {n : ℕ} → Took (Ok o) piece taken taken' → o ≡ Some n →
      (1 ≤ n) × ((n ≤ length piece) × Counted taken n taken')
  unfolding Took
  took_got o took e = subst (λ (x : Option ℕ). Took (Ok x) piece taken taken') e took

  pub took_end : (o : Option ℕ) → Took (Ok o) piece taken taken' → o ≡ None → Counted taken 0 taken'
  unfolding Took
  took_end o took e = subst (λ (x : Option ℕ). Took (Ok x) piece taken taken') e took

  pub took_failed : {e : Unread} → Took (Err e) piece taken taken' → Counted taken 0 taken'
  unfolding Took
  took_failed took = took
