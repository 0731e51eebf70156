-- `rate::engine::report` meets its contract: number 7, or what the backlog leaves.
-- Assumes nothing.
use Rattle.rate.proofs.Judging.{reports_corrupt, reports_sound, report_takes}
use Rattle.rate.proofs.engine.report.Goals as goal

pub returns-in_default : goal.returns-in_default
returns-in_default g c = reports_corrupt g.E.Engine.engine c.args.plan c.args.now.0 c.args.held c.in_default.ensures

pub report-requires : goal.report-requires
report-requires g c = report_takes g.E.Engine.engine c.args.plan c.args.now.0 c.args.held g.met.E.Engine.lawful c.in-Some.ensures c.requires

pub returns : goal.returns
returns g c = reports_sound g.E.Engine.engine c.args.plan c.args.now.0 c.args.held g.met.E.Engine.lawful c.in-Some.ensures c.report.ensures
