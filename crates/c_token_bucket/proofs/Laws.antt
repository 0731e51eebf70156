-- The laws of `specs/Laws`, as of any table.
-- Assumes nothing.
use Rattle.table_token_bucket.specs.Table.{acquire, peek, clear}
use Rattle.c_answer.proofs.Laws.{call_places}
use Rattle.c_token_bucket.specs.Laws.{Laws}

pub laws : Laws
laws = call_places acquire peek clear
