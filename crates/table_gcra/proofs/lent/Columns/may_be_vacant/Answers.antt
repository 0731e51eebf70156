-- `table_gcra::lent::Columns::may_be_vacant` meets its contract: the flag is raised wherever a slot is empty or its TAT may be drained.
-- Assumes nothing.
use Rattle.std.proofs.Common.{arith, rules}
use Rattle.ticks.proofs.Tests.{neither}
use Rattle.table.proofs.Slots.{none_vacant}
use Rattle.table_gcra.specs.Table.{lent_of, records, columns, rule}
use Rattle.table_gcra.proofs.Columns.{least}
use Rattle.table_gcra.proofs.lent.Columns.may_be_vacant.Goals as goal

pub may_carry-requires : goal.may_carry-requires
may_carry-requires c = omega (arith, (least (lent_of c.args.self.now)).ids)

pub may_pass-requires : goal.may_pass-requires
may_pass-requires c = let all = least (lent_of c.args.self.now) in λ i above below. search rules

pub returns : goal.returns
unfolding records
returns c =
    λ p at l d no.
    let n = neither _ _ no in
    let S = c.args in
    none_vacant rule columns p at (lent_of S.self.now) S.from S.to (c.may_carry.ensures n.0)
    (c.may_pass.ensures (λ j. rule.free p at (columns.row (lent_of S.self.now) j)) (λ i above below may. search rules) n.1)
