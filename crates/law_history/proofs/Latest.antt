-- A subscriber's latest unbroken run under one plan, as admissions are added: one's own extends it or starts the next, and
-- another's changes nothing.
-- Assumes nothing.
use mathlib.Core.Path.{◌≡◌, refl, sym, ap, subst, ◌∙◌}
use mathlib.Core.Bool.{Bool, true, false, cond, false≢true}
use mathlib.Core.List.{List, [], ◌∷◌, ◌++◌}
use Prim.Native.Nat.{ℕ}
use lib.Dec.{eqb}
use borrow.Author.Tests.{eq-eqb, ne_eqb, eqb-true}
use Rattle.law_history.specs.History.{Entry, calls_of, number_of, extend, latest_from, run_of, plan_number, member, names}
use Rattle.law_history.proofs.Counting.{member_here, member_tail}

pub calls_none : (who : ℕ) → calls_of who [] ≡ []
unfolding calls_of
calls_none who = refl

-- a call at the end of the history is at the end of its subscriber's list, and of no other
pub calls_own : (h : List Entry) (e : Entry) → calls_of e.subscriber (h ++ (e ∷ [])) ≡ calls_of e.subscriber h ++ (e ∷ [])
unfolding calls_of
calls_own [] e = rw (eq-eqb e.subscriber e.subscriber refl)
calls_own (x ∷ rest) e = by (eqb x.subscriber e.subscriber) (calls_own rest e)
  where
    by :
        (t : Bool) → calls_of e.subscriber (rest ++ (e ∷ [])) ≡ calls_of e.subscriber rest ++ (e ∷ []) →
        cond t (x ∷ calls_of e.subscriber (rest ++ (e ∷ []))) (calls_of e.subscriber (rest ++ (e ∷ [])))
        ≡ cond t (x ∷ calls_of e.subscriber rest) (calls_of e.subscriber rest) ++ (e ∷ [])
    by true ih = ap (λ (l : List Entry). x ∷ l) ih
    by false ih = ih

pub calls_other :
    (h : List Entry) (e : Entry) (who : ℕ) → (e.subscriber ≡ who → ⊥) → calls_of who (h ++ (e ∷ [])) ≡ calls_of who h
unfolding calls_of
calls_other [] e who n = rw (ne_eqb e.subscriber who n)
calls_other (x ∷ rest) e who n = ap (λ (l : List Entry). cond (eqb x.subscriber who) (x ∷ l) l) (calls_other rest e who n)

-- a call extends the run under its plan; it starts the next under another
pub extend_same : (run : List Entry) (e : Entry) → number_of run ≡ e.plan → extend run e ≡ run ++ (e ∷ [])
unfolding extend
extend_same run e k = rw (eq-eqb (number_of run) e.plan k)

pub extend_other : (run : List Entry) (e : Entry) → eqb (number_of run) e.plan ≡ false → extend run e ≡ e ∷ []
unfolding extend
extend_other run e k = rw k

number_one : (e : Entry) → number_of (e ∷ []) ≡ e.plan
unfolding number_of
number_one e = refl

number_end : (run : List Entry) (e : Entry) → number_of run ≡ e.plan → number_of (run ++ (e ∷ [])) ≡ e.plan
unfolding number_of
number_end [] e k = refl
number_end (x ∷ rest) e k = k

-- either way the run is under the call's plan
pub extend_number : (run : List Entry) (e : Entry) → number_of (extend run e) ≡ e.plan
extend_number run e = by (eqb (number_of run) e.plan) refl
  where
    by : (t : Bool) → eqb (number_of run) e.plan ≡ t → number_of (extend run e) ≡ e.plan
    by true t =
        let same = eqb-true _ _ t in
        ap (λ (l : List Entry). number_of l) (extend_same run e same) ∙ number_end run e same
    by false t = ap (λ (l : List Entry). number_of l) (extend_other run e t) ∙ number_one e

pub latest_end : (run l : List Entry) (e : Entry) → latest_from run (l ++ (e ∷ [])) ≡ extend (latest_from run l) e
unfolding latest_from
latest_end run [] e = refl
latest_end run (x ∷ rest) e = latest_end (extend run x) rest e

-- an admission at the end of the history extends its subscriber's run, and no other
pub run_own : (h : List Entry) (e : Entry) → run_of e.subscriber (h ++ (e ∷ [])) ≡ extend (run_of e.subscriber h) e
unfolding run_of
run_own h e = ap (λ (l : List Entry). latest_from [] l) (calls_own h e) ∙ latest_end [] (calls_of e.subscriber h) e

pub run_other : (h : List Entry) (e : Entry) (who : ℕ) → (e.subscriber ≡ who → ⊥) → run_of who (h ++ (e ∷ [])) ≡ run_of who h
unfolding run_of
run_other h e who n = ap (λ (l : List Entry). latest_from [] l) (calls_other h e who n)

pub run_none : (who : ℕ) → run_of who [] ≡ []
unfolding run_of latest_from
run_none who = ap (λ (l : List Entry). latest_from [] l) (calls_none who)

-- .. and names its plan
pub number_own : (h : List Entry) (e : Entry) → plan_number e.subscriber (h ++ (e ∷ [])) ≡ e.plan
unfolding plan_number
number_own h e = ap (λ (l : List Entry). number_of l) (run_own h e) ∙ extend_number (run_of e.subscriber h) e

pub number_others :
    (h : List Entry) (e : Entry) (who : ℕ) → (e.subscriber ≡ who → ⊥) → plan_number who (h ++ (e ∷ [])) ≡ plan_number who h
unfolding plan_number
number_others h e who n = ap (λ (l : List Entry). number_of l) (run_other h e who n)

-- whoever is not named in the history has no calls in it
calls_unnamed : (who : ℕ) (h : List Entry) → member who (names h) ≡ false → calls_of who h ≡ []
unfolding calls_of names
calls_unnamed who [] n = refl
calls_unnamed who (e ∷ rest) n =
    by (member e.subscriber (names rest)) refl (eqb e.subscriber who) refl n (calls_unnamed who rest)
  where
    by :
        (m : Bool) → member e.subscriber (names rest) ≡ m → (s : Bool) → eqb e.subscriber who ≡ s →
        member who (cond m (names rest) (e.subscriber ∷ names rest)) ≡ false →
        (member who (names rest) ≡ false → calls_of who rest ≡ []) → cond s (e ∷ calls_of who rest) (calls_of who rest) ≡ []
    by true em true es n ih =
        absurd (false≢true (sym n ∙ subst (λ (x : ℕ). member x (names rest) ≡ true) (eqb-true _ _ es) em))
    by true em false es n ih = ih n
    by false em true es n ih = absurd (false≢true (sym n ∙ member_here who e.subscriber (names rest) (sym (eqb-true _ _ es))))
    by false em false es n ih = ih (member_tail who e.subscriber (names rest) n)

pub run_unnamed : (who : ℕ) (h : List Entry) → member who (names h) ≡ false → run_of who h ≡ []
unfolding run_of latest_from
run_unnamed who h n = ap (λ (l : List Entry). latest_from [] l) (calls_unnamed who h n)
