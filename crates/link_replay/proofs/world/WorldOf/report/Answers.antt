use Rattle.link_replay.proofs.Prelude.{WorldRepresents, report}
use Rattle.link_replay.proofs.ReportWritten.{reported_prefix, reported_whole}
use Rattle.link_replay.proofs.world.WorldOf.report.Goals as goal

pub returns-clause-ok : goal.returns-clause-ok
returns-clause-ok g c = reported_whole (WorldRepresents g.A.App c.args.self.now) (report c.args.show) _ _ c.write_report.result c.write_report.ensures.wrote

pub returns-clause-err : goal.returns-clause-err
returns-clause-err g c = reported_prefix (WorldRepresents g.A.App c.args.self.now) (report c.args.show) _ _ c.write_report.result c.write_report.ensures.wrote
