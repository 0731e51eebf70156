-- `table_token_bucket::lent::Columns::may_be_vacant` meets its contract: the flag is raised wherever a slot is empty or its record may be
-- free by the plan or by one that is no looser.
-- Assumes nothing.
use Rattle.std.proofs.Common.{arith, rules}
use Rattle.ticks.proofs.Tests.{neither}
use Rattle.rule_token_bucket.specs.TokenBucket.{token_bucket}
use Rattle.table_token_bucket.specs.Table.{lent_of, bucket_at}
use Rattle.table_token_bucket.proofs.Columns.{least}
use Rattle.table_token_bucket.proofs.lent.Columns.may_be_vacant.Goals as goal

pub may_carry-requires : goal.may_carry-requires
may_carry-requires c = omega (arith, (least (lent_of c.args.self.now)).ids)

pub may_pass-requires : goal.may_pass-requires
may_pass-requires c = let in_force = c.requires.in_force in λ i above below. search rules

pub returns : goal.returns
returns c =
    λ no.
    let n = neither _ _ no in
    let S = c.args in (
      c.may_carry.ensures n.0,
      λ q w l. c.may_pass.ensures (λ j. token_bucket.free q S.moment.0 (bucket_at S.self.now.levels.now S.self.now.lasts.now j)) (λ i above below may. search rules) n.1,
    )
