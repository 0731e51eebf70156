-- What GCRA stores means what document 01 says. That it has the backlog law is shown in specs/Lawful.
-- Assumes nothing.
use mathlib.Core.Path.{◌≡◌, refl}
use Prim.Native.Nat.{ℕ, ◌+◌, max}
use lib.Dec.{leb}
use borrow.Author.Tests.{le-leb, lt-leb}
use Rattle.ticks.specs.declared.plan.Plan.{Plan}
use Rattle.ticks.specs.declared.units.Ticks.{Ticks}
use Rattle.ticks.specs.Grains.{ticks_in, price, capacity}
use Rattle.rule_gcra.specs.Gcra.{gcra, sound, free, later, spend}
use Rattle.rule_gcra.specs.Laws.{GcraLaws}
pub use Rattle.rule_gcra.specs.Lawful.{gcra_lawful}

-- what `free` tests
pub free_test : (p : Plan) (at : ℕ) (tat : Ticks) → gcra.free p at tat ≡ leb tat.0 (ticks_in p at)
unfolding gcra free
free_test p at tat = refl

-- what is stored after an admission
spent_tat :
    (p : Plan) (at : ℕ) (tat : Ticks) (cost : ℕ) → (gcra.spend p at tat cost).0 ≡ max tat.0 (ticks_in p at) + price p cost
unfolding gcra spend later
spent_tat p at tat cost = refl

pub gcra_laws : GcraLaws
unfolding gcra sound
gcra_laws =
    record {
      lawful = gcra_lawful;
      possible = λ p at tat h. le-leb _ _ h;
      impossible = λ p at tat h. lt-leb tat.0 (ticks_in p at + capacity p) h;
      free_test = free_test;
      spent_tat = spent_tat;
    }
