-- `table::calls::gate` meets its contract: each of the five is what the checks look at.
-- Assumes nothing.
use Rattle.plans.specs.Plans.{planned}
use Rattle.table.specs.Rule.{rule_of}
use Rattle.table.specs.Seen.{sights}
use Rattle.table.specs.Lent.{asked_of}
use Rattle.table.proofs.Judging.{gate_says}
use Rattle.table.proofs.calls.gate.Goals as goal

pub returns : goal.returns
returns g c =
    gate_says (rule_of (planned g.S.By.Engine.engine)) sights (asked_of c.args.query.now) (g.S.Slots.sight c.args.slots.now) c.is_ok.ensures
    c.count.ensures c.newest.ensures
