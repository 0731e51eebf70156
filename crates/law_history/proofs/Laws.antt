-- The laws of both engines hold.
-- Assumes nothing.
use Rattle.law_history.specs.Laws.{EngineLaws}
use Rattle.law_history.proofs.Calls as calls
use Rattle.law_history.proofs.Demand3 as runs
use Rattle.law_history.proofs.Lives as lives
use Rattle.law_history.proofs.NeverCorrupt as corrupt

pub engine_laws : EngineLaws
engine_laws =
    record {
      demand_3 = runs.demand_3;
      never_corrupt = corrupt.never_corrupt;
      gcra_laws = calls.gcra_laws;
      token_bucket_laws = calls.token_bucket_laws;
      engines_agree = lives.engines_agree;
    }
