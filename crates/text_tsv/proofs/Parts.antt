-- A text is its lines and a line is its fields, put together again; and the same bytes are the same text.
-- Assumes nothing.
use Rattle.std.proofs.Common.{◌≡◌, ℕ, ◌≤◌, Bool, true, false, cond, ◌&&◌, eqb, List, [], ◌∷◌, ◌++◌, length, drop, sym, refl, ap, ◌∙◌, subst, ap₂, arith, eq-eqb, ne_eqb, eqb-true, le-leb}
use Rattle.std.proofs.lemmas.Bool.{false≢true}
use Rattle.std.specs.Cmp.Lexicographic.{pointwise}
use Rattle.text_tsv.specs.Text.{Line, longer, lines, wider, fields, same}
use Rattle.text_tsv.specs.Fields.{fields_at}
use Rattle.text_tsv.specs.Laws.{Without, joined, TabFree}

-- lines
pub no_line : lines [] ≡ []
unfolding lines
no_line = refl

pub line_ended : (l s : List ℕ) → Without 10 l → lines (l ++ (10 ∷ s)) ≡ record { bytes = l; ended = true } ∷ lines s
unfolding lines longer
line_ended [] s w = refl
line_ended (b ∷ l) s w = rw (ne_eqb b 10 w.0) (ap (λ (ls : List Line). longer b ls) (line_ended l s w.1))

pub line_unended : (b : ℕ) (l : List ℕ) → Without 10 (b ∷ l) → lines (b ∷ l) ≡ record { bytes = b ∷ l; ended = false } ∷ []
unfolding lines longer
line_unended b [] w = rw (ne_eqb b 10 w.0)
line_unended b (c ∷ l) w = rw (ne_eqb b 10 w.0) (ap (λ (ls : List Line). longer b ls) (line_unended c l w.1))

-- fields
one_field : (f : List ℕ) → Without 9 f → fields f ≡ f ∷ []
unfolding fields wider
one_field [] w = refl
one_field (b ∷ f) w = rw (ne_eqb b 9 w.0) (ap (λ (fs : List (List ℕ)). wider b fs) (one_field f w.1))

before_tab : (f s : List ℕ) → Without 9 f → fields (f ++ (9 ∷ s)) ≡ f ∷ fields s
unfolding fields wider
before_tab [] s w = refl
before_tab (b ∷ f) s w = rw (ne_eqb b 9 w.0) (ap (λ (fs : List (List ℕ)). wider b fs) (before_tab f s w.1))

pub parted : (f : List ℕ) (fs : List (List ℕ)) → TabFree (f ∷ fs) → fields (joined (f ∷ fs)) ≡ f ∷ fs
parted f [] w = one_field f w.0
parted f (g ∷ fs) w =
    before_tab f (joined (g ∷ fs)) w.0 ∙ ap (λ (gs : List (List ℕ)). f ∷ gs) (parted g fs w.1)

some_field : (s : List ℕ) → 1 ≤ length (fields s)
unfolding fields wider
some_field [] = omega arith
some_field (b ∷ s) = by (eqb b 9) (fields s)
  where
    by : (t : Bool) (fs : List (List ℕ)) → 1 ≤ length (cond t ([] ∷ fs) (wider b fs))
    by true fs = omega arith
    by false [] = omega arith
    by false (f ∷ fs) = omega arith

joined_tab : (fs : List (List ℕ)) → 1 ≤ length fs → joined ([] ∷ fs) ≡ 9 ∷ joined fs
joined_tab [] h = absurd (omega arith)
joined_tab (f ∷ fs) h = refl

joined_wider : (b : ℕ) (fs : List (List ℕ)) → joined (wider b fs) ≡ b ∷ joined fs
unfolding wider
joined_wider b [] = refl
joined_wider b (f ∷ []) = refl
joined_wider b (f ∷ g ∷ fs) = refl

pub rejoined : (line : List ℕ) → joined (fields line) ≡ line
unfolding fields
rejoined [] = refl
rejoined (b ∷ s) = by (eqb b 9) refl (rejoined s)
  where
    by :
        (t : Bool) → eqb b 9 ≡ t → joined (fields s) ≡ s →
        joined (cond t ([] ∷ fields s) (wider b (fields s))) ≡ b ∷ s
    by true e r = joined_tab (fields s) (some_field s) ∙ ap₂ (λ (x : ℕ) (l : List ℕ). x ∷ l) (sym (eqb-true b 9 e)) r
    by false e r = joined_wider b (fields s) ∙ ap (λ (l : List ℕ). b ∷ l) r

pub at_place : (line : List ℕ) (at : ℕ) → at ≤ length line → fields_at line at ≡ fields (drop at line)
unfolding fields_at
at_place line at h = rw (le-leb at (length line) h)

-- the same bytes
both : (a b : Bool) → (a && b) ≡ true → (a ≡ true) × (b ≡ true)
both true b e = (refl, e)
both false b e = absurd (false≢true e)

pub same_is : (a b : List ℕ) → same a b ≡ true → a ≡ b
unfolding same
same_is [] [] e = refl
same_is [] (y ∷ b) e = absurd (false≢true e)
same_is (x ∷ a) [] e = absurd (false≢true e)
same_is (x ∷ a) (y ∷ b) e =
    let h = both (eqb x y) (same a b) e in
    ap₂ (λ (z : ℕ) (l : List ℕ). z ∷ l) (eqb-true x y h.0) (same_is a b h.1)

same_self : (a : List ℕ) → same a a ≡ true
unfolding same
same_self [] = refl
same_self (x ∷ a) = rw (eq-eqb x x refl) (same_self a)

pub is_same : (a b : List ℕ) → a ≡ b → same a b ≡ true
is_same a b e = subst (λ (l : List ℕ). same a l ≡ true) e (same_self a)

-- as `==` of two slices tells it
pub compared : (a b : List ℕ) → pointwise eqb a b ≡ same a b
unfolding same
compared [] [] = refl
compared [] (y ∷ b) = refl
compared (x ∷ a) [] = refl
compared (x ∷ a) (y ∷ b) = ap (λ (t : Bool). eqb x y && t) (compared a b)
