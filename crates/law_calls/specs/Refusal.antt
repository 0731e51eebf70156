-- Demand 1: what a refusal answers and leaves.
use Rattle.std.specs.Prelude.{ℕ, ◌≡◌}
use Rattle.rate.specs.Answer.{answered}
use Rattle.rate.specs.Decision.{bare}
use Rattle.table.specs.Calls.{Step}

-- its number and the subscriber with zeros beside them, and the columns as they were
pub record Refusal {C : Type 0} (n subscriber : ℕ) (c : C) (s : Step C) : Type 0 where
  pub answer : s.answer ≡ answered subscriber (bare n)
  pub number : s.answer.number ≡ n
  pub left : s.answer.left ≡ 0
  pub reset : s.answer.reset ≡ 0
  pub wait : s.answer.wait ≡ 0
  pub after : s.after ≡ c
