-- The laws of the calls (law_calls, proofs/Laws) hold of both engines under any plans lent.
-- Assumes nothing.
use Rattle.plans.specs.Plans.{planned}
use Rattle.plans.proofs.Accounts.{planned_balanced}
use Rattle.rule_gcra.specs.Gcra.{gcra}
use Rattle.rule_gcra.proofs.Laws.{gcra_lawful}
use Rattle.rule_token_bucket.specs.TokenBucket.{token_bucket}
use Rattle.rule_token_bucket.proofs.Laws.{token_bucket_lawful}
use Rattle.table_gcra.specs.Table as gcra_table
use Rattle.table_gcra.proofs.Columns.{gcra_stored}
use Rattle.table_token_bucket.specs.Table as token_bucket_table
use Rattle.table_token_bucket.proofs.Columns.{token_bucket_stored}
use Rattle.law_calls.specs.Laws.{CallLaws}
use Rattle.law_calls.proofs.Laws.{call_laws}

pub gcra_laws : CallLaws (planned gcra) gcra_table.columns
gcra_laws = call_laws (planned_balanced gcra_lawful) gcra_stored

pub token_bucket_laws : CallLaws (planned token_bucket) token_bucket_table.columns
token_bucket_laws = call_laws (planned_balanced token_bucket_lawful) token_bucket_stored
