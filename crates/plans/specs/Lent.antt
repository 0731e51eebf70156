-- Plans as a host lends them, in one slice: limit, period and burst of plan 0, then of plan 1, and so on.
use Rattle.std.specs.Prelude.{ℕ, ◌%◌, cond, List, [], ◌∷◌, eqb, length}
use Rattle.ticks.specs.declared.plan.Plan.{Plan}
use Rattle.plans.specs.declared.Setting.{Setting}
use Rattle.plans.specs.Plans.{Plans, plans_of}

unfoldable pub threes : List ℕ → List Plan
threes [] = []
threes (limit ∷ []) = []
threes (limit ∷ period ∷ []) = []
threes (limit ∷ period ∷ burst ∷ rest) = record { limit = limit; period = period; burst = burst } ∷ threes rest

-- a length that is no multiple of 3 is no plans
unfoldable pub plans_in : List ℕ → List Plan
plans_in words = cond (eqb (length words % 3) 0) (threes words) []

-- .. with the number of the one that is asked for (`Setting`, of the code)
abbrev pub setting_of : Setting → Plans
setting_of s = plans_of (plans_in s.plans.now) s.number
