-- `rule_token_bucket::may_be_free` meets its contract: a bucket that is not full by a plan is free by none that is no looser. Where one
-- of these counts the record as possible, nothing that is reckoned wraps around.
-- Assumes nothing.
use Rattle.std.proofs.Common.{◌≡◌, ℕ, ◌+◌, ◌-◌, ◌%◌, ◌^◌, ap, arith}
use Rattle.ticks.specs.Grains.{ticks_in}
use Rattle.ticks.proofs.Limits.{ticks_most, capacity_most}
use Rattle.rule_token_bucket.proofs.Freeing.{lacks_no_looser}
use Rattle.rule_token_bucket.proofs.may_be_free.Goals as goal

pub returns : goal.returns
returns c =
    λ e q within looser.
    let a = c.args in
    lacks_no_looser a.plan q a.now.0 a.bucket looser (λ past low.
    let span : (a.now.0 + (2 ^ 64 - a.bucket.last.0)) % 2 ^ 64 ≡ a.now.0 - a.bucket.last.0 = omega arith in
    let most = ticks_most a.plan c.requires.plan (a.now.0 - a.bucket.last.0) (omega (arith, c.requires.moment)) in
    let same = ap (λ (x : ℕ). ticks_in a.plan x) span in
    let refill = c.wrapping_ticks_in-refill.ensures (omega arith) in
    let holds = capacity_most q within in
    omega (arith, same, c.may_be_at_most.ensures (omega arith) e))
