-- What it means that a check stops a call, and that all have passed.
use Rattle.std.specs.Prelude.{ℕ, ◌≡◌, true, false, eqb, ltb}
use Rattle.ticks.specs.Grains.{on_clock}
use Rattle.table.specs.Checks.{slots_ok, Gate, Toll}

-- why one of the checks before the cost's stops a call: it applies, and none before it
pub data Stopped (g : Gate) : ℕ → Type 0 where
  bad_plan : g.ok ≡ false → Stopped g 1
  bad_table : g.ok ≡ true → slots_ok g.slots ≡ false → Stopped g 2
  late_moment : g.ok ≡ true → slots_ok g.slots ≡ true → on_clock g.moment ≡ false → Stopped g 3
  early_moment :
      g.ok ≡ true → slots_ok g.slots ≡ true → on_clock g.moment ≡ true → ltb g.moment g.newest ≡ true →
      Stopped g 11
  no_subscriber :
      g.ok ≡ true → slots_ok g.slots ≡ true → on_clock g.moment ≡ true → ltb g.moment g.newest ≡ false →
      eqb g.subscriber 0 ≡ true → Stopped g 4

-- the checks before the cost's have passed
pub record Asked (g : Gate) : Type 0 where
  pub plan : g.ok ≡ true
  pub table : slots_ok g.slots ≡ true
  pub moment : on_clock g.moment ≡ true
  pub newest : ltb g.moment g.newest ≡ false
  pub subscriber : eqb g.subscriber 0 ≡ false

-- all checks have passed
pub record Payable (t : Toll) : Type 0 where
  pub asked : Asked t.gate
  pub cost : eqb t.cost 0 ≡ false
  pub burst : ltb t.most t.cost ≡ false
