-- A line's first field is what stands before its first tab, and the others are the fields after it.
-- Assumes nothing.
use Rattle.std.proofs.Common.{◌≡◌, ℕ, suc, ◌+◌, ◌-◌, ◌<◌, ◌≤◌, Bool, true, false, cond, eqb, ltb, leb, List, [], ◌∷◌, length, take, drop, sym, refl, ap, ◌∙◌, arith, length-drop, drop-drop, le-ltb, lt-ltb, le-leb, leb-false, leb-true}
use Rattle.std.proofs.Math.Dec.{leb-zero, leb-suc-suc}
use Rattle.std.proofs.lemmas.Bool.{lt-leb}
use Rattle.text_tsv.specs.Text.{fields, wider, up_to, tab}
use Rattle.text_tsv.specs.Fields.{fields_at}

-- what stands before the first such byte is a front of the text
pub front : (b : ℕ) (s : List ℕ) → take (length (up_to b s)) s ≡ up_to b s
unfolding up_to
front b [] = refl
front b (x ∷ s) = by (eqb x b) (front b s)
  where
    by :
        (t : Bool) → take (length (up_to b s)) s ≡ up_to b s →
        take (length (cond t [] (x ∷ up_to b s))) (x ∷ s) ≡ cond t [] (x ∷ up_to b s)
    by true e = refl
    by false e = ap (λ (l : List ℕ). x ∷ l) e

split :
    (s : List ℕ) →
    fields s ≡ up_to tab s ∷ cond (ltb (length (up_to tab s)) (length s)) (fields (drop (suc (length (up_to tab s))) s)) []
unfolding fields up_to wider
split [] = refl
split (b ∷ s) = by (eqb b tab) (split s)
  where
    by :
        (t : Bool) →
        fields s ≡ up_to tab s ∷ cond (ltb (length (up_to tab s)) (length s)) (fields (drop (suc (length (up_to tab s))) s)) [] →
        cond t ([] ∷ fields s) (wider b (fields s))
        ≡ cond t [] (b ∷ up_to tab s)
        ∷ cond (ltb (length (cond t [] (b ∷ up_to tab s))) (length (b ∷ s))) (fields (drop (suc (length (cond t [] (b ∷ up_to tab s)))) (b ∷ s))) []
    by true e = ap (λ (t : Bool). [] ∷ cond t (fields s) []) (sym (leb-suc-suc 0 (length s) ∙ leb-zero (length s)))
    by false e =
        ap (λ (fs : List (List ℕ)). wider b fs) e
        ∙ ap (λ (t : Bool). (b ∷ up_to tab s) ∷ cond t (fields (drop (suc (length (up_to tab s))) s)) []) (sym (leb-suc-suc (suc (length (up_to tab s))) (length s)))

module _ (line : List ℕ) (at : ℕ) where
  pub fields_beyond : length line < at → fields_at line at ≡ []
  unfolding fields_at
  fields_beyond h = rw (lt-leb at (length line) h)

  -- the field at a place, and the place of the next
  pub fields_here :
      {end : ℕ} → at ≤ length line → end ≡ at + length (up_to tab (drop at line)) →
      fields_at line at ≡ up_to tab (drop at line) ∷ fields_at line (end + 1)
  unfolding fields_at
  fields_here {end} h e =
      rw (le-leb at (length line) h)
      (split (drop at line) ∙ ap (λ (fs : List (List ℕ)). up_to tab (drop at line) ∷ fs) (by (leb (end + 1) (length line)) refl))
    where
      k : ℕ
      k = length (up_to tab (drop at line))

      by :
          (t : Bool) → leb (end + 1) (length line) ≡ t →
          cond (ltb k (length (drop at line))) (fields (drop (suc k) (drop at line))) [] ≡ cond t (fields (drop (end + 1) line)) []
      by true l =
          let m : end + 1 ≤ length line = leb-true _ _ l in
          let inside : k < length (drop at line) = omega (arith, length-drop at line) in
          rw (lt-ltb k _ inside) (ap (λ (r : List ℕ). fields r) (drop-drop (suc k) at line ∙ ap (λ (n : ℕ). drop n line) {x = at + suc k} {y = end + 1} (omega arith)))
      by false l =
          let m : length line < end + 1 = leb-false _ _ l in
          let outside : length (drop at line) ≤ k = omega (arith, length-drop at line) in
          rw (le-ltb k _ outside)

  -- as a reader that stands there tells it
  pub first_field :
      {end : ℕ} → at ≤ length line → end ≡ at + length (up_to tab (drop at line)) →
      fields_at line at ≡ take (end - at) (drop at line) ∷ fields_at line (end + 1)
  first_field {end} h e =
      let k : end - at ≡ length (up_to tab (drop at line)) = omega arith in
      rw (k, front tab (drop at line)) (fields_here h e)

pub ruleset by_place = (fields_beyond, first_field)
