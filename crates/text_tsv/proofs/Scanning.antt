-- Where the first byte of a kind stands; and bytes written one after the other.
-- Assumes nothing.
use Rattle.std.proofs.Common.{◌≡◌, ℕ, zero, suc, ◌+◌, ◌<◌, ◌≤◌, Bool, true, false, cond, eqb, List, [], ◌∷◌, ◌++◌, length, get_or, take, drop, set, sym, refl, ap, ◌∙◌, add-one, arith, drop-cons, eqb-true, ltb, ltb-false, not, ◌-◌, length-drop, drop-drop, append_assoc, Option, Some, None, min}
use Rattle.std.proofs.Math.Seq.{sets, set_comm}
use Rattle.std.proofs.lemmas.List.Edits.{sets-eq}
use borrow.Rule.Slice.PartMut.{put_mid}
use Rattle.std.specs.List.{position_or_len, IsFirstMatchOrLen}
use Rattle.std.proofs.lemmas.Option.{cond_some}
use Rattle.text_tsv.specs.Text.{up_to}

-- the rest of a text from a place: its byte, and the rest after it
pub rest_of : (s : List ℕ) (i : ℕ) → i < length s → drop i s ≡ get_or s i 0 ∷ drop (i + 1) s
rest_of s i h = drop-cons s i 0 h ∙ ap (λ (k : ℕ). get_or s i 0 ∷ drop k s) (sym (add-one i))

-- the place found is within the text
pub found_within : (b : ℕ) (s : List ℕ) → length (up_to b s) ≤ length s
unfolding up_to
found_within b [] = omega arith
found_within b (x ∷ s) = by (eqb x b) (found_within b s)
  where
    by : (t : Bool) → length (up_to b s) ≤ length s → length (cond t [] (x ∷ up_to b s)) ≤ length (x ∷ s)
    by true h = omega arith
    by false h = omega arith

pub place_within :
    (b : ℕ) (s : List ℕ) (at : ℕ) {end : ℕ} → at ≤ length s → end ≡ at + length (up_to b (drop at s)) → end ≤ length s
place_within b s at h e = omega (arith, found_within b (drop at s), length-drop at s)

-- the place of the first such byte, as std's `position` tells it
pub record Position (b : ℕ) (s : List ℕ) (r : Option ℕ) : Type 0 where
  pub is : r ≡ cond (ltb (position_or_len (λ x. eqb x b) s) (length s)) (Some (position_or_len (λ x. eqb x b) s)) None

place : (b : ℕ) (s : List ℕ) → length (up_to b s) ≡ position_or_len (λ x. eqb x b) s
unfolding up_to
place b [] = refl
place b (x ∷ s) = by (eqb x b) (place b s)
  where
    by :
        (t : Bool) → length (up_to b s) ≡ position_or_len (λ x. eqb x b) s →
        length (cond t [] (x ∷ up_to b s)) ≡ cond (not t) (1 + position_or_len (λ x. eqb x b) s) 0
    by true e = refl
    by false e = omega arith

module _ {b : ℕ} {s : List ℕ} {r : Option ℕ} (p : Position b s r) where
  pub place_found : {i : ℕ} → r ≡ Some i → i ≡ length (up_to b s)
  place_found e = sym (place b s ∙ (cond_some _ _ _ (sym p.is ∙ e)).1)

  pub place_none : r ≡ None → length s ≡ length (up_to b s)
  place_none e = by (ltb (position_or_len (λ x. eqb x b) s) (length s)) refl (sym p.is ∙ e)
    where
      by :
          (t : Bool) → ltb (position_or_len (λ x. eqb x b) s) (length s) ≡ t →
          cond t (Some (position_or_len (λ x. eqb x b) s)) None ≡ None → length s ≡ length (up_to b s)
      by true l h = cc
      by false l h = omega (arith, place b s, ltb-false _ _ l, found_within b s)

-- the byte does not occur
abbrev pub Lacks : ℕ → List ℕ → Type 0
Lacks b [] = Unit {0}
Lacks b (x ∷ s) = (eqb x b ≡ false) × Lacks b s

-- it does not before the first
pub before_lacks : (b : ℕ) (s : List ℕ) → Lacks b (up_to b s)
unfolding up_to
before_lacks b [] = tt
before_lacks b (x ∷ s) = by (eqb x b) refl (before_lacks b s)
  where
    by : (t : Bool) → eqb x b ≡ t → Lacks b (up_to b s) → Lacks b (cond t [] (x ∷ up_to b s))
    by true e h = tt
    by false e h = (e, h)

-- a text in which it occurs: what stands before the first, the byte, and what follows
pub found_split :
    (b : ℕ) (s : List ℕ) → length (up_to b s) < length s → s ≡ up_to b s ++ b ∷ drop (suc (length (up_to b s))) s
unfolding up_to
found_split b [] h = absurd (omega arith)
found_split b (x ∷ s) h = by (eqb x b) refl h (found_split b s)
  where
    by :
        (t : Bool) → eqb x b ≡ t → length (cond t [] (x ∷ up_to b s)) < length (x ∷ s) →
        (length (up_to b s) < length s → s ≡ up_to b s ++ b ∷ drop (suc (length (up_to b s))) s) →
        x ∷ s ≡ cond t [] (x ∷ up_to b s) ++ b ∷ drop (suc (length (cond t [] (x ∷ up_to b s)))) (x ∷ s)
    by true e h ih = ap (λ (y : ℕ). y ∷ s) (eqb-true x b e)
    by false e h ih = ap (λ (l : List ℕ). x ∷ l) (ih (omega arith))

-- bytes written after bytes
pub sets_append :
    (l : List ℕ) (i : ℕ) (a b : List ℕ) → sets l i (a ++ b) ≡ sets (sets l i a) (i + length a) b
sets_append l i [] b = ap (λ (k : ℕ). sets l k b) (omega arith)
sets_append l i (x ∷ a) b = sets_append (set l i x) (suc i) a b ∙ ap (λ (k : ℕ). sets (sets (set l i x) (suc i) a) k b) (omega arith)

-- bytes copied into a part of the output
pub copied :
    (l : List ℕ) (at : ℕ) (s : List ℕ) {t : List ℕ} → t ≡ s → at + length s ≤ length l →
    put_mid at (at + length s - at) l t ≡ sets l at s
copied l at s {t} e h =
    let k : at + length s - at ≡ length s = omega arith in
    let rest : drop (length s) (drop at l) ≡ drop (at + length s) l = drop-drop (length s) at l in
    sym (sets-eq s l at h ∙ append_assoc (take at l) s (drop (at + length s) l) ∙ rw (k, e, rest) refl)

-- bytes written before bytes that were written
byte_before : (l : List ℕ) (i j v : ℕ) (s : List ℕ) → i < j → sets (set l i v) j s ≡ set (sets l j s) i v
byte_before l i j v [] h = refl
byte_before l i j v (x ∷ s) h =
    ap (λ (m : List ℕ). sets m (suc j) s) (set_comm l i j v x λ e. absurd (omega arith))
    ∙ byte_before (set l j x) i (suc j) v s (omega arith)

pub sets_before :
    (l : List ℕ) (i : ℕ) (a b : List ℕ) → sets (sets l (i + length a) b) i a ≡ sets l i (a ++ b)
sets_before l i [] b = ap (λ (k : ℕ). sets l k b) (omega arith)
sets_before l i (x ∷ a) b =
    let same : i + suc (length a) ≡ suc i + length a = omega arith in
    let moved = sym (byte_before l i (i + suc (length a)) x b (omega arith)) ∙ ap (λ (k : ℕ). sets (set l i x) k b) same in
    ap (λ (m : List ℕ). sets m (suc i) a) moved ∙ sets_before (set l i x) (suc i) a b

-- where the first such byte stands, as the library's splits find it
pub first_place :
    (b : ℕ) (s : List ℕ) (e : ℕ) → IsFirstMatchOrLen (λ x. eqb x b) s e → min e (length s) ≡ length (up_to b s)
unfolding up_to
first_place b [] e h = omega arith
first_place b (x ∷ s) zero h = rw (h.1 (omega arith) 0) (omega arith)
first_place b (x ∷ s) (suc e) h =
    let rest = first_place b s e ((λ k d low high. h.0 (suc k) d (omega arith) (omega arith)), (λ l d. h.1 (omega arith) d)) in
    rw (h.0 0 0 (omega arith) (omega arith)) (omega (arith, rest))
