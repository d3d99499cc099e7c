-- The streams of a resolver: its line, and the sink of its report.
use Rattle.uip_edge.specs.declared.link.Link.{Ghosts as LinkGhosts}
use Rattle.uip_edge.specs.declared.sink.Sink.{Ghosts as SinkGhosts}
use Rattle.uip_edge.specs.Prelude.{IsUnfailed, line_view, sink_view, LineView, LineUnfailed, SinkView}

pub record Streams : Type 0 where
  pub line : LineView
  pub tell : SinkView

abbrev pub streams : {L K T : Type 0} → LinkGhosts L → SinkGhosts K → SinkGhosts T → L → K → T → Streams
streams l k t link out tell = record { line = line_view l k link out; tell = sink_view t tell }

-- No call failed.
pub record StreamsUnfailed (old new : Streams) : Type 0 where
  pub line : LineUnfailed old.line new.line
  pub tell : IsUnfailed old.tell.faults new.tell.faults
