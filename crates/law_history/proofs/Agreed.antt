-- Demand 3 at the worked runs, in which moments fall and plans change, under good plans and bad ones: each engine gives the answers that
-- the history does.
-- Assumes nothing.
use mathlib.Core.Path.{◌≡◌, ◌∙◌}
use mathlib.Core.List.{List, []}
use Prim.Native.Nat.{ℕ}
use Rattle.rate.specs.declared.answer.Numbers.{Numbers}
use Rattle.ticks.specs.declared.plan.Plan.{Plan}
use Rattle.table_gcra.specs.Table as gcra_table
use Rattle.table_token_bucket.specs.Table as token_bucket_table
use Rattle.law_history.specs.Demand3.{Agreement}
use Rattle.law_history.specs.Run.{Call, engine, history, answers}
use Rattle.law_history.specs.Worked.{plans, falling, falling_answers, ending, ending_answers, owing, owing_answers, changing, changing_answers, spoilt, too_many, refusals}
use Rattle.law_history.proofs.Worked.{falling_answered, ending_answered, owing_answered, changing_answered, spoilt_refused, none_refused, too_many_refused, gcra_slot, bucket_slot, one_slot}
use Rattle.law_history.proofs.Demand3.{demand_3}

-- whatever the two slots and the newest moments were before the clears
module _ (id number tat newest : ℕ) (bucket_id bucket_number level last bucket_newest : ℕ) where
  abbrev t : gcra_table.Table
  t = gcra_slot id number tat newest

  abbrev b : token_bucket_table.Table
  b = bucket_slot bucket_id bucket_number level last bucket_newest

  pub agree : (ps : List Plan) (run : List Call) → Agreement ps 1 t b run
  agree ps run = demand_3 ps 1 t b (one_slot id number tat newest bucket_id bucket_number level last bucket_newest) run

  -- both engines give these answers
  pub record Both (ps : List Plan) (run : List Call) (expected : List Numbers) : Type 0 where
    pub gcra_answers : answers (engine gcra_table.rule gcra_table.columns) ps (gcra_table.clear t).after run ≡ expected
    pub token_bucket_answers :
        answers (engine token_bucket_table.rule token_bucket_table.columns) ps (token_bucket_table.clear b).after run ≡ expected

  both :
      (ps : List Plan) (run : List Call) {expected : List Numbers} → answers (history 1) ps [] run ≡ expected → Both ps run expected
  both ps run e =
      record {
        gcra_answers = (agree ps run).gcra_is_history ∙ e;
        token_bucket_answers = (agree ps run).token_bucket_is_history ∙ e;
      }

  pub moments_fall : Both plans falling falling_answers
  moments_fall = both plans falling falling_answered

  pub clock_ends : Both plans ending ending_answers
  clock_ends = both plans ending ending_answered

  pub plans_change_owing : Both plans owing owing_answers
  plans_change_owing = both plans owing owing_answered

  pub plans_change : Both plans changing changing_answers
  plans_change = both plans changing changing_answered

  -- where a bad plan is lent, none or too many
  pub refuse_spoilt : Both spoilt changing (refusals changing)
  refuse_spoilt = both spoilt changing spoilt_refused

  pub refuse_none : Both [] changing (refusals changing)
  refuse_none = both [] changing none_refused

  pub refuse_too_many : Both too_many changing (refusals changing)
  refuse_too_many = both too_many changing too_many_refused
