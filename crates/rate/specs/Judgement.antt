-- What the functions of an engine answer on one record, as the definitions have it.
use Rattle.std.specs.Prelude.{ℕ, cond, Option, Some, None}
use Rattle.ticks.specs.declared.plan.Plan.{Plan}
use Rattle.ticks.specs.declared.units.Ticks.{Ticks}
use Rattle.rate.specs.declared.engine.Judgement.{Judgement}
use Rattle.rate.specs.Answer.{verdict_of}
use Rattle.rate.specs.Decision.{Verdict}
use Rattle.rate.specs.Engine.{Engine}
use Rattle.rate.specs.Account.{Settled, kept, spent}

-- what a record owes, if it is possible
unfoldable pub owed_of : {R : Type 0} → Engine R → Plan → ℕ → R → Option Ticks
owed_of E p at r = cond (E.sound p at r) (Some (record { 0 = E.backlog p at r })) None

-- a verdict, and the record that is put in the other's place, if any
unfoldable pub put : {R : Type 0} → Verdict → Option R → Settled R
put v None = kept v
put v (Some r) = spent v r

-- what `judge` answers
unfoldable pub judgement_of : {R : Type 0} → Judgement R → Settled R
judgement_of j = put (verdict_of j.outcome) j.record
