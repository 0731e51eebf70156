-- Lists in which nothing stands twice, and how long they are: two such lists with the same members are equally long.
-- Assumes nothing.
use mathlib.Core.Path.{◌≡◌, refl, sym, ap, ◌∙◌}
use mathlib.Core.Bool.{Bool, true, false, cond, false≢true}
use mathlib.Core.List.{List, [], ◌∷◌}
use Prim.Native.Nat.{ℕ, zero, suc, ◌≤◌, ◌<◌}
use native.Mathlib.Nat.{le_antisymm}
use native.Mathlib.Omega.{arith}
use lib.Dec.{eqb}
use lib.ListN.{length, get_or}
use borrow.Author.Tests.{eq-eqb, ne_eqb, eqb-true, eqb-false}
use Rattle.law_history.specs.History.{Entry, member, names, keep}

pub member_here : (x y : ℕ) (l : List ℕ) → x ≡ y → member x (y ∷ l) ≡ true
unfolding member
member_here x y l e = rw (eq-eqb x y e)

pub member_there : (x y : ℕ) (l : List ℕ) → member x l ≡ true → member x (y ∷ l) ≡ true
unfolding member
member_there x y l m = by (eqb x y)
  where
    by : (t : Bool) → cond t true (member x l) ≡ true
    by true = refl
    by false = m

-- what a list with a first element says of a member, and of what is none
pub member_tail : (x y : ℕ) (l : List ℕ) → member x (y ∷ l) ≡ false → member x l ≡ false
unfolding member
member_tail x y l n = by (eqb x y) n
  where
    by : (t : Bool) → cond t true (member x l) ≡ false → member x l ≡ false
    by true e = absurd (false≢true (sym e))
    by false e = e

pub member_not_head : (x y : ℕ) (l : List ℕ) → member x (y ∷ l) ≡ false → x ≡ y → ⊥
member_not_head x y l n e = false≢true (sym n ∙ member_here x y l e)

pub member_next : (x y : ℕ) (l : List ℕ) → (x ≡ y → ⊥) → member x (y ∷ l) ≡ member x l
unfolding member
member_next x y l n = rw (ne_eqb x y n)

-- nothing stands twice
abbrev pub Distinct : List ℕ → Type 0
Distinct [] = Unit {0}
Distinct (x ∷ l) = (member x l ≡ false) × Distinct l

-- a list without one element
remove : ℕ → List ℕ → List ℕ
remove x [] = []
remove x (y ∷ l) = cond (eqb x y) l (y ∷ remove x l)

remove_length : (x : ℕ) (l : List ℕ) → member x l ≡ true → length l ≡ suc (length (remove x l))
unfolding member remove
remove_length x [] m = absurd (false≢true m)
remove_length x (y ∷ l) m = by (eqb x y) m (remove_length x l)
  where
    by :
        (t : Bool) → cond t true (member x l) ≡ true → (member x l ≡ true → length l ≡ suc (length (remove x l))) →
        suc (length l) ≡ suc (length (cond t l (y ∷ remove x l)))
    by true e ih = refl
    by false e ih = ap (λ (n : ℕ). suc n) (ih e)

remove_member : (x z : ℕ) (l : List ℕ) → (z ≡ x → ⊥) → member z l ≡ true → member z (remove x l) ≡ true
unfolding remove
remove_member x z [] n m = m
remove_member x z (y ∷ l) n m = by (eqb x y) refl (remove_member x z l n)
  where
    other : (b : Bool) → eqb z y ≡ b → (member z l ≡ true → member z (remove x l) ≡ true) → member z (y ∷ remove x l) ≡ true
    other true e ih = member_here z y (remove x l) (eqb-true _ _ e)
    other false e ih = member_there z y (remove x l) (ih (sym (member_next z y l (eqb-false _ _ e)) ∙ m))

    by : (t : Bool) → eqb x y ≡ t → (member z l ≡ true → member z (remove x l) ≡ true) → member z (cond t l (y ∷ remove x l)) ≡ true
    by true e ih = sym (member_next z y l (λ q. n (q ∙ sym (eqb-true _ _ e)))) ∙ m
    by false e ih = other (eqb z y) refl ih

-- a list in which nothing stands twice is no longer than one that has all its members
within_length :
    (xs ys : List ℕ) → Distinct xs → ((z : ℕ) → member z xs ≡ true → member z ys ≡ true) → length xs ≤ length ys
within_length [] ys d h = omega arith
within_length (x ∷ xs) ys d h =
    let there = h x (member_here x x xs refl) in
    let rest =
    within_length xs (remove x ys) d.1
    (λ z m. remove_member x z ys (λ e. false≢true (sym d.0 ∙ ap (λ (k : ℕ). member k xs) (sym e) ∙ m)) (h z (member_there z x xs m))) in
    omega (arith, remove_length x ys there)

pub same_length :
    (xs ys : List ℕ) → Distinct xs → Distinct ys → ((z : ℕ) → member z xs ≡ true → member z ys ≡ true) →
    ((z : ℕ) → member z ys ≡ true → member z xs ≡ true) → length xs ≡ length ys
same_length xs ys dx dy there back = le_antisymm (within_length xs ys dx there) (within_length ys xs dy back)

-- the members that pass a test
pub keep_member : (test : ℕ → Bool) (x : ℕ) (l : List ℕ) → test x ≡ true → member x l ≡ true → member x (keep test l) ≡ true
unfolding keep
keep_member test x [] t m = m
keep_member test x (y ∷ l) t m = by (eqb x y) refl (test y) refl (keep_member test x l t)
  where
    by :
        (s : Bool) → eqb x y ≡ s → (b : Bool) → test y ≡ b → (member x l ≡ true → member x (keep test l) ≡ true) →
        member x (cond b (y ∷ keep test l) (keep test l)) ≡ true
    by true es true eb ih = member_here x y (keep test l) (eqb-true _ _ es)
    by true es false eb ih = absurd (false≢true (sym eb ∙ ap (λ (k : ℕ). test k) (sym (eqb-true _ _ es)) ∙ t))
    by false es true eb ih = member_there x y (keep test l) (ih (sym (member_next x y l (eqb-false _ _ es)) ∙ m))
    by false es false eb ih = ih (sym (member_next x y l (eqb-false _ _ es)) ∙ m)

pub record Kept (test : ℕ → Bool) (x : ℕ) (l : List ℕ) : Type 0 where
  pub passes : test x ≡ true
  pub among : member x l ≡ true

pub kept : (test : ℕ → Bool) (x : ℕ) (l : List ℕ) → member x (keep test l) ≡ true → Kept test x l
unfolding keep member
kept test x [] m = absurd (false≢true m)
kept test x (y ∷ l) m = by (test y) refl (eqb x y) refl m (kept test x l)
  where
    further : Kept test x l → Kept test x (y ∷ l)
    further k = record { passes = k.passes; among = member_there x y l k.among }

    by :
        (b : Bool) → test y ≡ b → (s : Bool) → eqb x y ≡ s → member x (cond b (y ∷ keep test l) (keep test l)) ≡ true →
        (member x (keep test l) ≡ true → Kept test x l) → Kept test x (y ∷ l)
    by true eb true es m ih =
        record { passes = ap (λ (k : ℕ). test k) (eqb-true _ _ es) ∙ eb; among = member_here x y l (eqb-true _ _ es) }
    by true eb false es m ih = further (ih (sym (member_next x y (keep test l) (eqb-false _ _ es)) ∙ m))
    by false eb s es m ih = further (ih m)

not_kept : (test : ℕ → Bool) (x : ℕ) (l : List ℕ) → member x l ≡ false → member x (keep test l) ≡ false
not_kept test x l n = by (member x (keep test l)) refl
  where
    by : (t : Bool) → member x (keep test l) ≡ t → member x (keep test l) ≡ false
    by true e = absurd (false≢true (sym n ∙ (kept test x l e).among))
    by false e = e

-- a list in which nothing that passes stands twice
abbrev pub Apart : (ℕ → Bool) → List ℕ → Type 0
Apart test [] = Unit {0}
Apart test (x ∷ l) = (test x ≡ true → member x l ≡ false) × Apart test l

pub apart_distinct : (test : ℕ → Bool) (l : List ℕ) → Apart test l → Distinct (keep test l)
unfolding keep
apart_distinct test [] a = tt
apart_distinct test (x ∷ l) a = by (test x) refl (apart_distinct test l a.1)
  where
    by : (b : Bool) → test x ≡ b → Distinct (keep test l) → Distinct (cond b (x ∷ keep test l) (keep test l))
    by true e d = (not_kept test x l (a.0 e), d)
    by false e d = d

-- what stands only where something weaker does
pub apart_within :
    (test weak : ℕ → Bool) (l : List ℕ) → ((x : ℕ) → test x ≡ true → weak x ≡ true) → Apart weak l → Apart test l
apart_within test weak [] h a = tt
apart_within test weak (x ∷ l) h a = (λ t. a.0 (h x t), apart_within test weak l h a.1)

names_apart : (test : ℕ → Bool) (h : List Entry) → Apart test (names h)
unfolding names
names_apart test [] = tt
names_apart test (e ∷ rest) = by (member e.subscriber (names rest)) refl (names_apart test rest)
  where
    by :
        (m : Bool) → member e.subscriber (names rest) ≡ m → Apart test (names rest) →
        Apart test (cond m (names rest) (e.subscriber ∷ names rest))
    by true em a = a
    by false em a = (λ t. em, a)

-- the names that pass a test are distinct
pub names_distinct : (test : ℕ → Bool) (h : List Entry) → Distinct (keep test (names h))
names_distinct test h = apart_distinct test (names h) (names_apart test h)

-- as many pass as there are exactly if all do
keep_most : (test : ℕ → Bool) (l : List ℕ) → length (keep test l) ≤ length l
unfolding keep
keep_most test [] = omega arith
keep_most test (x ∷ l) = by (test x) (keep_most test l)
  where
    by : (b : Bool) → length (keep test l) ≤ length l → length (cond b (x ∷ keep test l) (keep test l)) ≤ suc (length l)
    by true h = omega arith
    by false h = omega arith

pub all_kept : (test : ℕ → Bool) (l : List ℕ) → length (keep test l) ≡ length l → (i : ℕ) → i < length l → test (get_or l i 0) ≡ true
unfolding keep
all_kept test [] e i h = absurd (omega arith)
all_kept test (x ∷ l) e i h = by (test x) refl e i h (all_kept test l)
  where
    by :
        (b : Bool) → test x ≡ b → length (cond b (x ∷ keep test l) (keep test l)) ≡ suc (length l) → (i : ℕ) → i < suc (length l) →
        (length (keep test l) ≡ length l → (i : ℕ) → i < length l → test (get_or l i 0) ≡ true) → test (get_or (x ∷ l) i 0) ≡ true
    by true eb e zero h ih = eb
    by true eb e (suc i) h ih = ih (omega arith) i (omega arith)
    by false eb e i h ih = absurd (omega (arith, keep_most test l))

pub keeps_all : (test : ℕ → Bool) (l : List ℕ) → ((i : ℕ) → i < length l → test (get_or l i 0) ≡ true) → length (keep test l) ≡ length l
unfolding keep
keeps_all test [] h = refl
keeps_all test (x ∷ l) h =
    rw (h 0 (omega arith)) (ap (λ (n : ℕ). suc n) (keeps_all test l (λ i k. h (suc i) (omega arith))))

-- a member stands somewhere
pub member_place : (x : ℕ) (l : List ℕ) → member x l ≡ true → (i : ℕ) × ((i < length l) × (get_or l i 0 ≡ x))
unfolding member
member_place x [] m = absurd (false≢true m)
member_place x (y ∷ l) m = by (eqb x y) refl m (member_place x l)
  where
    by :
        (t : Bool) → eqb x y ≡ t → cond t true (member x l) ≡ true →
        (member x l ≡ true → (i : ℕ) × ((i < length l) × (get_or l i 0 ≡ x))) →
        (i : ℕ) × ((i < suc (length l)) × (get_or (y ∷ l) i 0 ≡ x))
    by true e m ih = (0, (omega arith, sym (eqb-true _ _ e)))
    by false e m ih = let at = ih m in (suc at.0, (omega (arith, at.1.0), at.1.1))

pub place_member : (x : ℕ) (l : List ℕ) (i : ℕ) → i < length l → get_or l i 0 ≡ x → member x l ≡ true
place_member x [] i h e = absurd (omega arith)
place_member x (y ∷ l) zero h e = member_here x y l (sym e)
place_member x (y ∷ l) (suc i) h e = member_there x y l (place_member x l i (omega arith) e)

pub keeps_none : (test : ℕ → Bool) (l : List ℕ) → ((x : ℕ) → test x ≡ false) → keep test l ≡ []
unfolding keep
keeps_none test [] fails = refl
keeps_none test (x ∷ l) fails = rw (fails x) (keeps_none test l fails)
