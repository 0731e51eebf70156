-- `table_token_bucket::lent::Columns::may_be_vacant_own` meets its contract: the flag is raised wherever a slot is empty or its record may
-- be free.
-- Assumes nothing.
use Rattle.std.proofs.Common.{arith, rules}
use Rattle.ticks.proofs.Tests.{neither}
use Rattle.plans.specs.Lent.{plans_in}
use Rattle.plans.specs.Plans.{plans_of}
use Rattle.table.proofs.Slots.{none_vacant}
use Rattle.table_token_bucket.specs.Table.{lent_of, records, columns, rule}
use Rattle.table_token_bucket.proofs.Columns.{least}
use Rattle.table_token_bucket.proofs.lent.Columns.may_be_vacant_own.Goals as goal

pub may_carry-requires : goal.may_carry-requires
may_carry-requires c = omega (arith, (least (lent_of c.args.self.now)).ids)

pub may_pass-requires : goal.may_pass-requires
may_pass-requires c = let all = least (lent_of c.args.self.now) in let lent = c.requires.lent in let moment = c.requires.moment_on_clock in λ i above below. search rules

pub returns : goal.returns
unfolding records
returns c =
    λ asked no.
    let n = neither _ _ no in
    let S = c.args in
    let setting = plans_of (plans_in S.plans.now) asked in
    none_vacant rule columns setting S.moment.0 (lent_of S.self.now) S.from S.to (c.may_carry.ensures n.0)
    (c.may_pass.ensures (λ j. rule.free setting S.moment.0 (columns.row (lent_of S.self.now) j)) (λ i above below may. search rules) n.1)
