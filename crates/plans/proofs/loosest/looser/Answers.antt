-- `plans::loosest::looser` meets its contract: period and burst are those of the plan with the smaller capacity.
-- Assumes nothing.
use native.Mathlib.Omega.{arith}
use Rattle.plans.proofs.Bounds.{loosens_first, loosens_second}
use Rattle.plans.proofs.loosest.looser.Goals as goal

pub returns-then-held-holds : goal.returns-then-held-holds
returns-then-held-holds c =
    let a = c.args in
    let both = loosens_first a.p a.q c.max-limit.ensures (omega (arith, c.if-held-holds.true, c.capacity-holds.ensures, c.capacity-held.ensures)) in
    record { looser = both.0; within_limits = both.1 }

pub returns : goal.returns
returns c =
    let a = c.args in
    let both = loosens_second a.p a.q c.max-limit.ensures (omega (arith, c.if-held-holds.false, c.capacity-holds.ensures, c.capacity-held.ensures)) in
    record { looser = both.0; within_limits = both.1 }
