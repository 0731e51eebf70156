-- `rule_token_bucket::planned::may_be_free` meets its contract: where a plan with the number is lent it is the one that is tested.
-- Assumes nothing.
use Rattle.std.proofs.Common.{sym, ap, ◌∙◌, arith}
use Rattle.ticks.specs.declared.plan.Plan.{Plan}
use Rattle.ticks.proofs.Limits.{on_clock_lem}
use Rattle.ticks.proofs.Tests.{not_both}
use Rattle.rule_token_bucket.specs.TokenBucket.{token_bucket}
use Rattle.std.proofs.Common.{ap}
use Rattle.rule_token_bucket.proofs.planned.may_be_free.Goals as goal

pub may_be_free-requires : goal.may_be_free-requires
may_be_free-requires c = record { plan = c.nearest.ensures.within_limits; moment = on_clock_lem _ c.requires.moment_on_clock }

pub returns : goal.returns
returns c =
    λ e.
    let a = c.args in
    not_both _ _
    (λ k.
    ap (λ (p : Plan). token_bucket.free p a.moment.0 a.bucket) (sym (c.nearest.ensures.value k))
    ∙ c.may_be_free.ensures e c.nearest.result c.nearest.ensures.within_limits (record { limit = omega arith; holds = omega arith }))
