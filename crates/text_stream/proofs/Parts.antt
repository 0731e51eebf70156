-- A piece cut after each LF: a part that ends with one is a line, and another is all that is left, which ends none.
-- Assumes nothing.
use Rattle.std.proofs.Common.{◌≡◌, ◌≢◌, ℕ, suc, ◌+◌, ◌≤◌, Bool, true, false, ltb, eqb, List, [], ◌∷◌, ◌++◌, length, get_or, take, min, sym, refl, ap, ◌∙◌, arith, ltb-true, ltb-false, eqb-true, take_all, take-suc}
use Rattle.std.proofs.Math.Seq.{get_or-append_seam}
use Rattle.std.proofs.Math.ListN.{get_or-append}
use mathlib.Core.Bool.{true≢false}
use Rattle.std.specs.List.{IsFirstMatchOrLen}
use Rattle.text_tsv.specs.Text.{lf, up_to}
use Rattle.text_tsv.proofs.Scanning.{first_place}

-- a part that ends with it ends at the first
pub line_place :
    (s line rest : List ℕ) (e : ℕ) → s ≡ line ++ (lf ∷ rest) → length line + 1 ≡ min (e + 1) (length s) →
    IsFirstMatchOrLen (λ x. eqb x lf) s e → length line ≡ length (up_to lf s)
line_place s line rest e whole long first = by (ltb e (length s)) refl
  where
    by : (t : Bool) → ltb e (length s) ≡ t → length line ≡ length (up_to lf s)
    by true l = omega (arith, ltb-true _ _ l, first_place lf s e first, long)
    by false l =
        let miss : eqb (get_or s (length line) 0) lf ≡ false = first.0 (length line) 0 (omega arith) (omega (arith, ltb-false _ _ l, long)) in
        let hit : eqb (get_or s (length line) 0) lf ≡ true =
        ap (λ (l : List ℕ). eqb (get_or l (length line) 0) lf) whole ∙ ap (λ (x : ℕ). eqb x lf) (get_or-append_seam line lf rest 0) in
        absurd (true≢false (sym hit ∙ miss))

-- and of a part that does not, nothing follows
pub rest_place :
    (s part rest : List ℕ) (e : ℕ) → s ≡ part ++ rest → length part ≡ min (e + 1) (length s) →
    IsFirstMatchOrLen (λ x. eqb x lf) s e → ((front : List ℕ) → part ≢ front ++ (lf ∷ [])) → length s ≤ e
rest_place s part rest e whole long first unended = by (ltb e (length s)) refl
  where
    by : (t : Bool) → ltb e (length s) ≡ t → length s ≤ e
    by false l = ltb-false _ _ l
    by true l =
        let here = ltb-true _ _ l in
        let last : get_or part e 0 ≡ lf =
        sym (get_or-append part rest 0 e (omega (arith, here, long))) ∙ ap (λ (l : List ℕ). get_or l e 0) (sym whole) ∙ eqb-true _ _ (first.1 here 0) in
        absurd (unended (take e part) (sym (take_all (suc e) part (omega (arith, here, long))) ∙ take-suc part e 0 (omega (arith, here, long)) ∙ ap (λ (x : ℕ). take e part ++ (x ∷ [])) last))
