-- `table_token_bucket::lent::Columns::peek` meets its contract: a look goes by what is read of the columns.
-- Assumes nothing.
use Rattle.std.proofs.Common.{◌∙◌}
use Rattle.table.specs.Lent.{asked_of}
use Rattle.table.proofs.Seen.{peek_seen}
use Rattle.table_token_bucket.specs.Table.{lent_of, columns, rule}
use Rattle.table_token_bucket.proofs.lent.Columns.peek.Goals as goal

pub returns : goal.returns
returns c = c.peek.ensures ∙ peek_seen rule columns (lent_of c.args.self.now) (asked_of c.args.query.now)
