-- Demand 3: the simulation, at the two engines, from what a clear that answered 0 has left and the empty history.
-- Assumes nothing.
use mathlib.Core.Path.{◌≡◌, subst}
use mathlib.Core.Bool.{true}
use mathlib.Core.List.{List, []}
use Prim.Native.Nat.{ℕ}
use Rattle.ticks.specs.declared.plan.Plan.{Plan}
use Rattle.rate.specs.Engine.{Engine}
use Rattle.rate.specs.Lawful.{Lawful}
use Rattle.plans.specs.declared.planned.Planned.{Planned}
use Rattle.plans.specs.Plans.{planned}
use Rattle.rule_gcra.proofs.Laws.{gcra_lawful}
use Rattle.rule_token_bucket.proofs.Laws.{token_bucket_lawful}
use Rattle.table.specs.Checks.{slots_ok}
use Rattle.table.specs.Rule.{rule_of}
use Rattle.table.specs.Slots.{Columns}
use Rattle.table.specs.Calls.{clear}
use Rattle.table.specs.Stored.{Stored}
use Rattle.table_gcra.specs.Table as gcra_table
use Rattle.table_gcra.proofs.Columns.{gcra_stored}
use Rattle.table_token_bucket.specs.Table as token_bucket_table
use Rattle.table_token_bucket.proofs.Columns.{token_bucket_stored}
use Rattle.law_calls.proofs.Cleared.{cleared_table, cleared_after}
use Rattle.law_history.specs.Demand3.{Demand3}
use Rattle.law_history.specs.History.{newest}
use Rattle.law_history.specs.Run.{Call, engine, history, answers}
use Rattle.law_history.proofs.Invariant.{cleared}
use Rattle.law_history.proofs.Simulation.{simulation}

-- any lawful engine, under any plans, over columns that a clear has left answers as the history does
pub engine_is_history :
    {C R : Type 0} {E : Engine R} → Lawful E → (K : Columns C (Planned R)) → Stored K → (ps : List Plan) (slots : ℕ) (c : C) →
    K.slots c ≡ slots → (clear K c).answer.number ≡ 0 → (run : List Call) →
    answers (engine (rule_of (planned E)) K) ps (clear K c).after run ≡ answers (history slots) ps [] run
engine_is_history L K S ps slots c s e run =
    let table = subst (λ (k : ℕ). slots_ok k ≡ true) s (cleared_table K c e) in
    rw (cleared_after K c e) (simulation L K S slots ps run (K.zeros c) [] (cleared L K S ps slots (newest []) c s table))

pub demand_3 : Demand3
demand_3 ps slots t b s run =
    record {
      gcra_is_history =
          engine_is_history gcra_lawful gcra_table.columns gcra_stored ps slots t s.gcra_slots s.gcra_cleared run;
      token_bucket_is_history =
          engine_is_history token_bucket_lawful token_bucket_table.columns token_bucket_stored ps slots b s.token_bucket_slots s.token_bucket_cleared run;
    }
