use Rattle.link_replay.proofs.Prelude.{◌≡◌, ◌+◌, drop, map, lines_of_client, numbered_texts, code_side_shown}
use Rattle.link_replay.proofs.Transmission.{Transmission}
use Rattle.link_replay.proofs.report.clients.write_clients.Given as goal

abbrev pub invariant-loop-place : goal.invariant-loop-place
invariant-loop-place g l = record {
  transmitting : Transmission (g.K.Sink.written l.fn.sink) (g.K.Sink.written l.sink) (numbered_texts (lines_of_client l.show) 1 (map code_side_shown l.sides))
      (numbered_texts (lines_of_client l.show) (l.place + 1) (drop l.place (map code_side_shown l.sides)));
  same : g.K.Sink.faults l.sink ≡ g.K.Sink.faults l.fn.sink;
}
