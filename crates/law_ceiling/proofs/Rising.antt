-- Moments that do not fall from one call to the next: between two places of such a list all calls lie in one stretch of time.
-- Assumes nothing.
use mathlib.Core.Path.{◌≡◌, ap, ◌∙◌}
use mathlib.Core.List.{List, [], ◌∷◌, ◌++◌}
use Prim.Native.Nat.{ℕ, ◌≤◌}
use native.Mathlib.Omega.{arith}
use borrow.Author.Tests.{le-leb}
use Rattle.law_history.specs.History.{Entry}
use Rattle.law_ceiling.specs.Counted.{select, during}
use Rattle.law_ceiling.specs.Ceiling.{last_of}
use Rattle.law_ceiling.proofs.Lists.{select_true, select_none}

-- from a moment on and up to another
abbrev pub Rising : ℕ → List Entry → ℕ → Type 0
Rising from [] to = from ≤ to
Rising from (e ∷ rest) to = (from ≤ e.moment) × Rising e.moment rest to

pub rising_to : (from : ℕ) (l : List Entry) (to later : ℕ) → Rising from l to → to ≤ later → Rising from l later
rising_to from [] to later r h = omega (arith, r)
rising_to from (x ∷ rest) to later r h = (r.0, rising_to x.moment rest to later r.1 h)

rising_from : (earlier from : ℕ) (l : List Entry) (to : ℕ) → earlier ≤ from → Rising from l to → Rising earlier l to
rising_from earlier from [] to h r = omega (arith, r)
rising_from earlier from (x ∷ rest) to h r = (omega (arith, r.0), r.1)

pub rising_end :
    (from : ℕ) (l : List Entry) (to : ℕ) (e : Entry) → Rising from l to → to ≤ e.moment → Rising from (l ++ (e ∷ [])) e.moment
rising_end from [] to e r h = (omega (arith, r), omega arith)
rising_end from (x ∷ rest) to e r h = (r.0, rising_end x.moment rest to e r.1 h)

-- the part after some calls
pub rising_after : (from : ℕ) (a b : List Entry) (to : ℕ) → Rising from (a ++ b) to → Rising from b to
rising_after from [] b to r = r
rising_after from (x ∷ rest) b to r = rising_from from x.moment b to r.0 (rising_after x.moment rest b to r.1)

last_since :
    (e : Entry) (between later : List Entry) (to : ℕ) → Rising e.moment (between ++ later) to → e.moment ≤ (last_of e between).moment
unfolding last_of
last_since e [] later to r = omega arith
last_since e (x ∷ rest) later to r = omega (arith, r.0, last_since x rest later to r.1)

first_during :
    (from to : ℕ) (e : Entry) (l : List Entry) → from ≤ e.moment → e.moment ≤ to →
    select (during from to) (e ∷ l) ≡ e ∷ select (during from to) l
first_during from to e l a b =
    select_true (during from to) e l (rw (le-leb from e.moment a, le-leb e.moment to b))

-- from the first of some calls to the last
pub all_during :
    (from : ℕ) (e : Entry) (between later : List Entry) (to : ℕ) → from ≤ e.moment → Rising e.moment (between ++ later) to →
    select (during from (last_of e between).moment) (e ∷ between) ≡ e ∷ between
unfolding last_of
all_during from e [] later to h r =
    first_during from e.moment e [] h (omega arith) ∙ ap (λ (l : List Entry). e ∷ l) (select_none (during from e.moment))
all_during from e (x ∷ rest) later to h r =
    first_during from (last_of x rest).moment e (x ∷ rest) h (omega (arith, r.0, last_since x rest later to r.1))
    ∙ ap (λ (l : List Entry). e ∷ l) (all_during from x rest later to (omega (arith, h, r.0)) r.1)
