-- Demand 3, whole: over any run the GCRA engine, the token bucket engine and the history (document 01's book) give the same
-- answers, whatever plans are lent (document 02, Item 3).
use Rattle.std.specs.Prelude.{ℕ, ◌≡◌, List, []}
use Rattle.ticks.specs.declared.plan.Plan.{Plan}
use Rattle.table_gcra.specs.Table as gcra_table
use Rattle.table_token_bucket.specs.Table as token_bucket_table
use Rattle.law_history.specs.Run.{Call, engine, history, answers}

-- any columns of equally many slots, on each of which a clear has just answered 0
pub record Start (slots : ℕ) (t : gcra_table.Table) (b : token_bucket_table.Table) : Type 0 where
  pub gcra_slots : (gcra_table.columns).slots t ≡ slots
  pub token_bucket_slots : (token_bucket_table.columns).slots b ≡ slots
  pub gcra_cleared : (gcra_table.clear t).answer.number ≡ 0
  pub token_bucket_cleared : (token_bucket_table.clear b).answer.number ≡ 0

-- at every place of the run the three answers are equal in all five numbers
pub record Agreement (ps : List Plan) (slots : ℕ) (t : gcra_table.Table) (b : token_bucket_table.Table) (run : List Call) : Type 0 where
  pub gcra_is_history :
      answers (engine gcra_table.rule gcra_table.columns) ps (gcra_table.clear t).after run ≡ answers (history slots) ps [] run
  pub token_bucket_is_history :
      answers (engine token_bucket_table.rule token_bucket_table.columns) ps (token_bucket_table.clear b).after run ≡ answers (history slots) ps [] run

-- under any list of plans, good or bad, none or too many, the same in every call, which may name any of them or one that is not
-- lent; and at any moments: those that fall, and those beyond the limit, too
abbrev pub Demand3 : Type 0
Demand3 =
    (ps : List Plan) (slots : ℕ) (t : gcra_table.Table) (b : token_bucket_table.Table) → Start slots t b → (run : List Call) →
    Agreement ps slots t b run
