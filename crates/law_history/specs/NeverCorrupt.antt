-- Number 7, an impossible record, comes of a damaged table alone: over any run from a clear that answered 0, with the same list of
-- plans lent in every call, no call of either engine gets it.
use Rattle.std.specs.Prelude.{ℕ, ◌≡◌, List, [], ◌∷◌}
use Rattle.rate.specs.declared.answer.Numbers.{Numbers}
use Rattle.ticks.specs.declared.plan.Plan.{Plan}
use Rattle.plans.specs.Plans.{Plans}
use Rattle.table.specs.Rule.{Rule}
use Rattle.table.specs.Slots.{Columns}
use Rattle.table.specs.Calls.{clear}
use Rattle.table_gcra.specs.Table as gcra_table
use Rattle.table_token_bucket.specs.Table as token_bucket_table
use Rattle.law_history.specs.Run.{Call, engine, answers}

-- no answer has this number
abbrev pub Never : ℕ → List Numbers → Type 0
Never n [] = Unit {0}
Never n (a ∷ rest) = (a.number ≡ n → ⊥) × Never n rest

-- over a run from a clear that answered 0 no call gets 7
abbrev pub NeverFrom : {C R : Type 0} → Rule Plans R → Columns C R → List Plan → C → List Call → Type 0
NeverFrom U K ps c run = (clear K c).answer.number ≡ 0 → Never 7 (answers (engine U K) ps (clear K c).after run)

-- under any plans, good or bad, whatever the columns were
pub record NeverCorrupt : Type 0 where
  pub of_gcra : (ps : List Plan) (t : gcra_table.Table) (run : List Call) → NeverFrom gcra_table.rule gcra_table.columns ps t run
  pub of_token_bucket :
      (ps : List Plan) (b : token_bucket_table.Table) (run : List Call) →
      NeverFrom token_bucket_table.rule token_bucket_table.columns ps b run
