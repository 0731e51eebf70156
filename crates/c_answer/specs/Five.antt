-- The order of the five numbers that a host receives: document 01's output line.
use Rattle.std.specs.Prelude.{ℕ, List, [], ◌∷◌}
use Rattle.rate.specs.declared.answer.Numbers.{Numbers}
use Rattle.ticks.specs.declared.plan.Plan.{Plan}

unfoldable pub five : Numbers → List ℕ
five n = n.number ∷ n.subscriber ∷ n.left ∷ n.reset ∷ n.wait ∷ []

abbrev pub plan_of : ℕ → ℕ → ℕ → Plan
plan_of limit period burst = record { limit = limit; period = period; burst = burst }
