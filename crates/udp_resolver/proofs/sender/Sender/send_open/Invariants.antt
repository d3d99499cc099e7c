use Rattle.udp_resolver.proofs.Prelude.{◌≡◌, ◌++◌, List, length, drop, Appends, LARGEST_DATAGRAM, last_ident, query_texts, Question}
use Rattle.udp_resolver.proofs.Prelude.{questions, unanswered}
use Rattle.udp_resolver.proofs.sender.Sender.send_open.Given as goal

abbrev pub invariant-loop-at : goal.invariant-loop-at
invariant-loop-at g l = record {
  prefix : List Question;
  area : length l.packet.area ≡ LARGEST_DATAGRAM;
  whole : unanswered (questions l.fn.asking l.names) l.answers ≡ prefix ++ unanswered (questions l.asking (drop l.at l.names)) (drop l.at l.answers);
  ident : l.self.ident ≡ last_ident l.fn.self.ident prefix;
  wrote : Appends (g.K.Sink.written l.fn.out) (g.K.Sink.written l.out) (query_texts l.fn.self.ident prefix);
  calm : g.K.Sink.faults l.out ≡ g.K.Sink.faults l.fn.out;
}
