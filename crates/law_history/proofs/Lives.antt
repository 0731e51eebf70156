-- GCRA and the token bucket agree over the life of one record, without a table: the same answers and the same backlog.
-- Assumes nothing.
use mathlib.Core.List.{List}
use Prim.Native.Nat.{ℕ}
use Rattle.ticks.specs.declared.plan.Plan.{Plan}
use Rattle.rate.specs.Life.{Ask, Rising, Agreement}
use Rattle.rate.proofs.Life.{lives_agree}
use Rattle.rule_gcra.specs.Gcra.{gcra}
use Rattle.rule_gcra.proofs.Laws.{gcra_lawful}
use Rattle.rule_token_bucket.specs.TokenBucket.{token_bucket}
use Rattle.rule_token_bucket.proofs.Laws.{token_bucket_lawful}

pub engines_agree : (p : Plan) (from : ℕ) (asks : List Ask) → Rising from asks → Agreement gcra token_bucket p from asks
engines_agree = lives_agree gcra_lawful token_bucket_lawful
