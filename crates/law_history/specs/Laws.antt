-- The laws of both engines: what a host may rely on over a run of calls and in any call, under any plans lent, and on one record.
-- proofs/Laws shows them.
use Rattle.std.specs.Prelude.{ℕ, List}
use Rattle.ticks.specs.declared.plan.Plan.{Plan}
use Rattle.rate.specs.Life as life
use Rattle.plans.specs.Plans.{planned}
use Rattle.rule_gcra.specs.Gcra.{gcra}
use Rattle.rule_token_bucket.specs.TokenBucket.{token_bucket}
use Rattle.table_gcra.specs.Table as gcra_table
use Rattle.table_token_bucket.specs.Table as token_bucket_table
use Rattle.law_calls.specs.Laws.{CallLaws}
use Rattle.law_history.specs.Demand3.{Demand3}
use Rattle.law_history.specs.NeverCorrupt.{NeverCorrupt}

pub record EngineLaws : Type 0 where
  -- demand 3: over any run both engines and the history give the same answers
  pub demand_3 : Demand3
  -- number 7 comes of a damaged table alone
  pub never_corrupt : NeverCorrupt
  -- demands 1 and 2: the laws of the calls hold of each engine, under any plans lent
  pub gcra_laws : CallLaws (planned gcra) gcra_table.columns
  pub token_bucket_laws : CallLaws (planned token_bucket) token_bucket_table.columns
  -- on one record, under one plan and without a table, the two give the same answers and owe the same
  pub engines_agree : (p : Plan) (from : ℕ) (asks : List life.Ask) → life.Rising from asks → life.Agreement gcra token_bucket p from asks
