-- The life of one record: a list of asks on it, each judged on the record as the one before left it.
use Rattle.std.specs.Prelude.{ℕ, ◌≤◌, ◌≡◌, List, [], ◌∷◌}
use Rattle.ticks.specs.declared.plan.Plan.{Plan}
use Rattle.rate.specs.Decision.{Verdict}
use Rattle.rate.specs.Engine.{Engine}
use Rattle.rate.specs.Account.{alone, judge}

pub record Ask : Type 0 where
  pub moment : ℕ
  pub cost : ℕ

-- moments never fall, from a first one on
abbrev pub Rising : ℕ → List Ask → Type 0
Rising from [] = Unit {0}
Rising from (a ∷ rest) = (from ≤ a.moment) × Rising a.moment rest

-- the newest moment
unfoldable pub newest : ℕ → List Ask → ℕ
newest from [] = from
newest from (a ∷ rest) = newest a.moment rest

-- the record afterwards
unfoldable pub lived : {R : Type 0} → Engine R → Plan → R → List Ask → R
lived E p r [] = r
lived E p r (a ∷ rest) = lived E p (judge (alone E) p a.moment r a.cost).after rest

-- the answer to each ask
unfoldable pub verdicts : {R : Type 0} → Engine R → Plan → R → List Ask → List Verdict
verdicts E p r [] = []
verdicts E p r (a ∷ rest) = (judge (alone E) p a.moment r a.cost).verdict ∷ verdicts E p (judge (alone E) p a.moment r a.cost).after rest

-- two engines agree over the life of one record that starts fresh: the same answers, and at any moment from the newest on
-- the same backlog
pub record Agreement {R S : Type 0} (E : Engine R) (F : Engine S) (p : Plan) (from : ℕ) (asks : List Ask) : Type 0 where
  pub answers : verdicts E p (E.fresh p from) asks ≡ verdicts F p (F.fresh p from) asks
  pub backlogs :
      (k : ℕ) → newest from asks ≤ k →
      E.backlog p k (lived E p (E.fresh p from) asks) ≡ F.backlog p k (lived F p (F.fresh p from) asks)
