use Rattle.link_replay.proofs.Prelude.{◌≡◌, ℕ, Bool, true, ◌+◌, drop, AppSpec, World, IsAt, IsLink, LinkRepresents, AppendsShown, link_of}
use Rattle.link_replay.proofs.Prelude.{line_of_datagram, numbered_texts}
use Rattle.link_replay.proofs.Transmission.{Transmission}
use Rattle.link_replay.proofs.report.datagrams.write_shown.Given as goal

abbrev pub invariant-loop-place : goal.invariant-loop-place
invariant-loop-place g l = record {
  transmitting : (m : AppSpec) (served : ℕ → Bool) (w : World) → l.addr ≡ w.node.addr → LinkRepresents (link_of l.sides l.sent) w
      → IsLink w.node.addr (link_of l.sides l.sent) → IsAt m served w
      → Transmission (g.K.Sink.written l.fn.sink) (g.K.Sink.written l.sink) (numbered_texts line_of_datagram 1 w.sent)
      (numbered_texts line_of_datagram (l.place + 1) (drop l.place w.sent));
  some : AppendsShown true (g.K.Sink.written l.fn.sink) (g.K.Sink.written l.sink);
  same : g.K.Sink.faults l.sink ≡ g.K.Sink.faults l.fn.sink;
}
