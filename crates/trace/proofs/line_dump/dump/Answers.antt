use Rattle.trace.proofs.ReportingLaws.{reported_by_name}
use Rattle.trace.proofs.TextLaws.{dump_is}
use Rattle.trace.proofs.line_dump.dump.Goals as goal

pub returns : goal.returns
returns g c = reported_by_name _ _ _ _ _ _ dump_is c.watch_line.ensures
