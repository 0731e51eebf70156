-- Plans lent in one slice: how many there are, where each stands, and whether all are good.
-- Assumes nothing.
use mathlib.Core.Path.{◌≡◌, refl, sym, ap, ap₂, ◌∙◌}
use mathlib.Core.Bool.{Bool, true, false, false≢true, ◌&&◌}
use mathlib.Core.List.{List, [], ◌∷◌}
use Prim.Native.Nat.{ℕ, zero, suc, ◌+◌, ◌*◌, ◌/◌, ◌%◌, ◌≤◌, ◌<◌}
use native.Mathlib.Omega.{arith}
use lib.Dec.{eqb}
use lib.ListN.{length, get_or}
use borrow.Author.Tests.{eq-eqb, ne_eqb, eqb-true, eqb-false, lt-ltb, le-ltb, ltb-true, ltb-false, le-leb, lt-leb}
use Rattle.ticks.specs.declared.plan.Plan.{Plan}
use Rattle.ticks.specs.Grains.{plan_ok}
use Rattle.plans.specs.Lent.{threes, plans_in}
use Rattle.plans.specs.Plans.{most_plans, known, plan_at, all_ok, count_ok, lent_ok}

-- the plan that stands in the words from a place on
abbrev pub plan_from : List ℕ → ℕ → Plan
plan_from words i = record { limit = get_or words i 0; period = get_or words (i + 1) 0; burst = get_or words (i + 2) 0 }

threes_length : (words : List ℕ) → (length words ≤ length (threes words) * 3 + 2) × (length (threes words) * 3 ≤ length words)
unfolding threes
threes_length [] = (omega arith, omega arith)
threes_length (a ∷ []) = (omega arith, omega arith)
threes_length (a ∷ b ∷ []) = (omega arith, omega arith)
threes_length (a ∷ b ∷ c ∷ rest) = let e = threes_length rest in (omega (arith, e.0), omega (arith, e.1))

past : (a b c : ℕ) (rest : List ℕ) (i : ℕ) → plan_from rest i ≡ plan_from (a ∷ b ∷ c ∷ rest) (suc (suc (suc i)))
past a b c rest i =
    let period : suc (suc (suc (i + 1))) ≡ suc (suc (suc i)) + 1 = omega arith in
    let burst : suc (suc (suc (i + 2))) ≡ suc (suc (suc i)) + 2 = omega arith in
    λ j.
    record {
      limit = get_or rest i 0;
      period = get_or (a ∷ b ∷ c ∷ rest) (period j) 0;
      burst = get_or (a ∷ b ∷ c ∷ rest) (burst j) 0;
    }

threes_at : (words : List ℕ) (k : ℕ) → k < length (threes words) → plan_at (threes words) k ≡ plan_from words (k * 3)
unfolding threes plan_at
threes_at [] k h = absurd (omega arith)
threes_at (a ∷ []) k h = absurd (omega arith)
threes_at (a ∷ b ∷ []) k h = absurd (omega arith)
threes_at (a ∷ b ∷ c ∷ rest) zero h = refl
threes_at (a ∷ b ∷ c ∷ rest) (suc k) h =
    let next : suc (suc (suc (k * 3))) ≡ suc k * 3 = omega arith in
    threes_at rest k (omega arith) ∙ past a b c rest (k * 3) ∙ ap (λ (i : ℕ). plan_from (a ∷ b ∷ c ∷ rest) i) next

-- how many plans are lent
pub lent_whole : (words : List ℕ) → length words % 3 ≡ 0 → plans_in words ≡ threes words
unfolding plans_in
lent_whole words e = rw (eq-eqb (length words % 3) 0 e)

pub lent_count : (words : List ℕ) → length words % 3 ≡ 0 → length (plans_in words) ≡ length words / 3
lent_count words e =
    let l = threes_length words in
    ap (λ (l : List Plan). length l) (lent_whole words e) ∙ omega (arith, l.0, l.1)

pub lent_none : (words : List ℕ) → (length words % 3 ≡ 0 → ⊥) → length (plans_in words) ≡ 0
unfolding plans_in
lent_none words n = rw (ne_eqb (length words % 3) 0 n)

-- one plan that is lent alone
pub lent_one : (p : Plan) → plans_in (p.limit ∷ p.period ∷ p.burst ∷ []) ≡ p ∷ []
unfolding plans_in threes
lent_one p = refl

-- a plan is lent exactly if its number is below their number
pub is_lent : (ps : List Plan) (k : ℕ) → k < length ps → known ps k ≡ true
unfolding known
is_lent ps k h = lt-ltb k (length ps) h

pub is_unlent : (ps : List Plan) (k : ℕ) → length ps ≤ k → known ps k ≡ false
unfolding known
is_unlent ps k h = le-ltb k (length ps) h

pub lent_below : (ps : List Plan) (k : ℕ) → known ps k ≡ true → k < length ps
unfolding known
lent_below ps k h = ltb-true k (length ps) h

-- no plan stands where none is lent
pub not_lent : (ps : List Plan) (k : ℕ) → known ps k ≡ false → plan_at ps k ≡ record { limit = 0; period = 0; burst = 0 }
unfolding known plan_at
not_lent [] k h = refl
not_lent (p ∷ rest) zero h = absurd (false≢true (sym h ∙ lt-ltb 0 (length (p ∷ rest)) (omega arith)))
not_lent (p ∷ rest) (suc k) h =
    not_lent rest k (le-ltb k (length rest) (omega (arith, ltb-false (suc k) (length (p ∷ rest)) h)))

-- where a plan stands
module _ (words : List ℕ) (k : ℕ) (below : k < length (plans_in words)) where
  whole : length words % 3 ≡ 0
  whole = by (eqb (length words % 3) 0) refl
    where
      by : (t : Bool) → eqb (length words % 3) 0 ≡ t → length words % 3 ≡ 0
      by true t = eqb-true _ _ t
      by false t = absurd (omega (arith, below, lent_none words (eqb-false _ _ t)))

  pub lent_within : k * 3 + 2 < length words
  lent_within =
      let l = threes_length words in
      omega (arith, below, ap (λ (l : List Plan). length l) (lent_whole words whole), l.1)

  pub lent_at : plan_at (plans_in words) k ≡ plan_from words (k * 3)
  lent_at =
      let e = lent_whole words whole in
      ap (λ (l : List Plan). plan_at l k) e ∙ threes_at words k (omega (arith, below, ap (λ (l : List Plan). length l) e))

-- the first of them are good
unfoldable pub good_to : List Plan → ℕ → Bool
good_to ps zero = true
good_to ps (suc i) = good_to ps i && plan_ok (plan_at ps i)

pub good_none : (ps : List Plan) → true ≡ good_to ps 0
unfolding good_to
good_none ps = refl

pub good_next : (ps : List Plan) (i : ℕ) {ok : Bool} {p : Plan} → ok ≡ good_to ps i → p ≡ plan_at ps i → (ok && plan_ok p) ≡ good_to ps (suc i)
unfolding good_to
good_next ps i e p = ap₂ (λ (a : Bool) (q : Plan). a && plan_ok q) e p

and-true : (a : Bool) → a ≡ (a && true)
and-true true = refl
and-true false = refl

and_assoc : (a b c : Bool) → ((a && b) && c) ≡ (a && (b && c))
and_assoc true b c = refl
and_assoc false b c = refl

good_from_next : (p : Plan) (rest : List Plan) (i : ℕ) → good_to (p ∷ rest) (suc i) ≡ (plan_ok p && good_to rest i)
unfolding good_to plan_at
good_from_next p rest zero = and-true (plan_ok p)
good_from_next p rest (suc i) =
    ap (λ (t : Bool). t && plan_ok (plan_at rest i)) (good_from_next p rest i) ∙ and_assoc (plan_ok p) (good_to rest i) (plan_ok (plan_at rest i))

-- .. and all, if so many are
pub good_all : (ps : List Plan) → good_to ps (length ps) ≡ all_ok ps
unfolding good_to all_ok
good_all [] = refl
good_all (p ∷ rest) = good_from_next p rest (length rest) ∙ ap (λ (t : Bool). plan_ok p && t) (good_all rest)

-- what the test of the plans lent comes to
module _ (ps : List Plan) where
  pub lent_too_few : length ps < 1 → false ≡ lent_ok ps
  unfolding lent_ok count_ok
  lent_too_few h = rw (lt-leb 1 (length ps) h) refl

  pub lent_too_many : 1 ≤ length ps → most_plans < length ps → false ≡ lent_ok ps
  unfolding lent_ok count_ok
  lent_too_many l h = rw (le-leb 1 (length ps) l, lt-leb (length ps) most_plans h) refl

  pub lent_ok_lem : 1 ≤ length ps → length ps ≤ most_plans → {t : Bool} → t ≡ all_ok ps → t ≡ lent_ok ps
  unfolding lent_ok count_ok
  lent_ok_lem l h e = rw (le-leb 1 (length ps) l, le-leb (length ps) most_plans h, e) refl
