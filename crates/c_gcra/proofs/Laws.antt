-- The laws of `specs/Laws`, as of any table.
-- Assumes nothing.
use Rattle.table_gcra.specs.Table.{acquire, peek, clear}
use Rattle.c_answer.proofs.Laws.{call_places}
use Rattle.c_gcra.specs.Laws.{Laws}

pub laws : Laws
laws = call_places acquire peek clear
