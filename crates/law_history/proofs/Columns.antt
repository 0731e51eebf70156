-- The ids of a table as a list in which no subscriber stands twice, before and after a slot is overwritten.
-- Assumes nothing.
use mathlib.Core.Path.{◌≡◌, refl, sym, ap, ◌∙◌}
use mathlib.Core.Bool.{Bool, true, false, not, false≢true}
use mathlib.Core.List.{List, [], ◌∷◌}
use Prim.Native.Nat.{ℕ, zero, suc, ◌<◌}
use native.Mathlib.Omega.{arith}
use lib.Dec.{eqb}
use lib.ListN.{length, get_or, set, replicate, length-set}
use lib.Seq.{get_or-set_same, get_or-set_other}
use Rattle.law_history.specs.History.{member}
use Rattle.law_history.proofs.Counting.{Apart, member_tail, member_not_head, member_next, place_member}

-- the number of a subscriber, and not of an empty slot
unfoldable pub somebody : ℕ → Bool
somebody x = not (eqb x 0)

set_absent : (x who : ℕ) (l : List ℕ) (i : ℕ) → (x ≡ who → ⊥) → member x l ≡ false → member x (set l i who) ≡ false
set_absent x who [] i n m = m
set_absent x who (y ∷ l) zero n m = member_next x who l n ∙ member_tail x y l m
set_absent x who (y ∷ l) (suc i) n m =
    member_next x y (set l i who) (member_not_head x y l m) ∙ set_absent x who l i n (member_tail x y l m)

-- a newcomer takes a slot
pub set_apart : (test : ℕ → Bool) (who : ℕ) (l : List ℕ) (i : ℕ) → member who l ≡ false → Apart test l → Apart test (set l i who)
set_apart test who [] i m a = tt
set_apart test who (x ∷ l) zero m a = (λ t. member_tail who x l m, a.1)
set_apart test who (x ∷ l) (suc i) m a =
    (λ t. set_absent x who l i (λ e. member_not_head who x l m (sym e)) (a.0 t), set_apart test who l i (member_tail who x l m) a.1)

-- who is not in the column any more was in the slot that was overwritten, or nowhere
pub gone_elsewhere :
    (x who : ℕ) (l : List ℕ) (i j : ℕ) → member x (set l i who) ≡ false → j < length l → (j ≡ i → ⊥) → get_or l j 0 ≡ x → ⊥
gone_elsewhere x who l i j m h n e =
    false≢true (sym m ∙ place_member x (set l i who) j (omega (arith, length-set l i who)) (get_or-set_other l i j who 0 n ∙ e))

pub gone_other : (x who : ℕ) (l : List ℕ) (i : ℕ) → member x (set l i who) ≡ false → i < length l → who ≡ x → ⊥
gone_other x who l i m h e =
    false≢true (sym m ∙ place_member x (set l i who) i (omega (arith, length-set l i who)) (get_or-set_same l i who 0 h ∙ e))

-- no subscriber stands in two places
pub one_place :
    (test : ℕ → Bool) (l : List ℕ) (i j x : ℕ) → Apart test l → test x ≡ true → i < length l → j < length l → get_or l i 0 ≡ x →
    get_or l j 0 ≡ x → i ≡ j
one_place test [] i j x a t hi hj ei ej = absurd (omega arith)
one_place test (y ∷ l) zero zero x a t hi hj ei ej = refl
one_place test (y ∷ l) zero (suc j) x a t hi hj ei ej =
    absurd (false≢true (sym (a.0 (ap (λ (k : ℕ). test k) ei ∙ t)) ∙ place_member y l j (omega arith) (ej ∙ sym ei)))
one_place test (y ∷ l) (suc i) zero x a t hi hj ei ej =
    absurd (false≢true (sym (a.0 (ap (λ (k : ℕ). test k) ej ∙ t)) ∙ place_member y l i (omega arith) (ei ∙ sym ej)))
one_place test (y ∷ l) (suc i) (suc j) x a t hi hj ei ej =
    ap (λ (k : ℕ). suc k) (one_place test l i j x a.1 t (omega arith) (omega arith) ei ej)

-- an empty table
pub zeros_apart : (n : ℕ) → Apart somebody (replicate n 0)
unfolding somebody
zeros_apart zero = tt
zeros_apart (suc n) = (λ t. absurd (false≢true t), zeros_apart n)
