use Rattle.uip_slip.proofs.Prelude.{◌≡◌, ◌∷◌, ◌++◌, ◌≤◌, List, ℕ, length, Appends, escaped}
use Rattle.uip_slip.proofs.encoder.encode_over.Given as goal

abbrev pub invariant-loop-rest : goal.invariant-loop-rest
invariant-loop-rest g l = record {
  prefix : List ℕ;
  sent : List ℕ;
  pieces : l.datagram ≡ prefix ++ l.rest;
  made : sent ++ l.text ≡ 192 ∷ escaped prefix;
  room : length l.text ≤ 1;
  written : Appends (g.K.Sink.written l.fn.sink) (g.K.Sink.written l.sink) sent;
  same : g.K.Sink.faults l.sink ≡ g.K.Sink.faults l.fn.sink;
}

abbrev pub decreases-loop-rest : goal.decreases-loop-rest
decreases-loop-rest g l = length l.rest
