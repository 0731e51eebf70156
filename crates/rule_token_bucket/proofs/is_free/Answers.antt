-- `rule_token_bucket::is_free` meets its contract: a record is free exactly if it is sound and owes nothing.
-- Assumes nothing.
use Rattle.std.proofs.Common.{ℕ, eqb, sym, ap, ◌∙◌}
use Rattle.rule_token_bucket.specs.TokenBucket.{token_bucket}
use Rattle.rule_token_bucket.proofs.Laws.{token_bucket_lawful}
use Rattle.std.proofs.Common.{ap}
use Rattle.rule_token_bucket.proofs.is_free.Goals as goal

pub returns-then-not-is_sound : goal.returns-then-not-is_sound
unfolding token_bucket
returns-then-not-is_sound c =
    let a = c.args in
    rw (token_bucket_lawful.free_iff a.plan a.now.0 a.bucket, sym c.is_sound.ensures ∙ c.if-not-is_sound.true)

pub returns : goal.returns
unfolding token_bucket
returns c =
    let a = c.args in
    rw (token_bucket_lawful.free_iff a.plan a.now.0 a.bucket, sym c.is_sound.ensures ∙ c.if-not-is_sound.false) (ap (λ (x : ℕ). eqb x 0) c.backlog-owed.ensures)
