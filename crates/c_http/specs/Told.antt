-- The five numbers that a host hands back, and the order of those that it is told for an HTTP response.
use Rattle.std.specs.Prelude.{ℕ, List, [], ◌∷◌, get_or}
use Rattle.rate.specs.declared.answer.Numbers.{Numbers}
use Rattle.http_fields.specs.declared.Fields.{Fields}

-- number, subscriber, left, reset and wait, as `five` puts them
unfoldable pub numbers_in : List ℕ → Numbers
numbers_in l = record { number = get_or l 0 0; subscriber = get_or l 1 0; left = get_or l 2 0; reset = get_or l 3 0; wait = get_or l 4 0 }

unfoldable pub told : Fields → List ℕ
told f = f.quota ∷ f.window ∷ f.remaining ∷ f.reset ∷ f.retry_after ∷ []
