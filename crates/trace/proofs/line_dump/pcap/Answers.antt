use Rattle.trace.proofs.Prelude.{refl, line_view}
use Rattle.trace.proofs.ReportingLaws.{reported_after}
use Rattle.trace.proofs.TextLaws.{capture_is}
use Rattle.trace.proofs.line_dump.pcap.Goals as goal

pub returns-in-Ok : goal.returns-in-Ok
returns-in-Ok g c =
    reported_after _ _ _ c.args.items
    (line_view g.L.Link g.K.Sink c.args.link.now c.args.sink.now)
    (line_view g.L.Link g.K.Sink c.args.link.now c.write_whole.new.self)
    (line_view g.L.Link g.K.Sink c.watch_line.new.link c.watch_line.new.sink)
    _ capture_is refl refl c.in-Ok.ensures.cause.same c.in-Ok.ensures.whole c.watch_line.ensures
