use Rattle.link_replay.proofs.Prelude.{◌≡◌, length, encode_lower}
use Rattle.link_replay.proofs.Transmission.{Transmission}
use Rattle.link_replay.proofs.report.hex_text.write_digits.Given as goal

abbrev pub invariant-loop-rest : goal.invariant-loop-rest
invariant-loop-rest g l = record {
  transmitting : Transmission (g.K.Sink.written l.fn.sink) (g.K.Sink.written l.sink) (encode_lower l.bytes) (encode_lower l.rest);
  same : g.K.Sink.faults l.sink ≡ g.K.Sink.faults l.fn.sink;
}

abbrev pub decreases-loop-rest : goal.decreases-loop-rest
decreases-loop-rest g l = length l.rest
