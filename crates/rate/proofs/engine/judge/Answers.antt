-- `rate::engine::judge` meets its contract: each return is a case of the definition.
-- Assumes nothing.
use Rattle.rate.proofs.Judging.{backlog_is, judgement_spend, judges_corrupt, judges_admitted, judges_throttled, admit_takes, throttle_takes}
use Rattle.rate.proofs.engine.judge.Goals as goal

pub returns-in_default : goal.returns-in_default
returns-in_default g c = let a = c.args in judges_corrupt g.E.Engine.engine a.plan a.now.0 a.held a.cost c.in_default.ensures c.kept.ensures

pub admit-requires : goal.admit-requires
admit-requires g c = admit_takes c.requires c.admits.ensures c.if-admits.true

pub spend-requires : goal.spend-requires
spend-requires g c = admit_takes c.requires c.admits.ensures c.if-admits.true

pub returns-then-admits : goal.returns-then-admits
returns-then-admits g c =
    let a = c.args in
    let owes = backlog_is g.E.Engine.engine a.plan a.now.0 a.held c.in-Some.ensures in
    judges_admitted g.E.Engine.engine a.plan a.now.0 a.held g.met.E.Engine.lawful c.in-Some.ensures a.cost c.admits.ensures c.if-admits.true c.admit.ensures
    (c.spend.ensures a.held owes) (judgement_spend _ _)

pub throttle-requires : goal.throttle-requires
throttle-requires g c =
    let a = c.args in
    throttle_takes g.E.Engine.engine a.plan a.now.0 a.held g.met.E.Engine.lawful c.in-Some.ensures a.cost c.admits.ensures c.requires c.if-admits.false

pub returns : goal.returns
returns g c =
    let a = c.args in
    judges_throttled g.E.Engine.engine a.plan a.now.0 a.held g.met.E.Engine.lawful c.in-Some.ensures a.cost c.admits.ensures c.if-admits.false c.throttle.ensures
    c.kept-2.ensures
