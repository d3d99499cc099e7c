use Rattle.udp_resolver.proofs.Prelude.{◌≡◌, ◌++◌, List, ℕ, drop, Appends, lines_by}
use Rattle.udp_resolver.proofs.lines.report_all.Given as goal

abbrev pub invariant-loop-at : goal.invariant-loop-at
invariant-loop-at g l = record {
  prefix : List ℕ;
  whole : lines_by l.names l.answers l.is_over ≡ prefix ++ lines_by (drop l.at l.names) (drop l.at l.answers) l.is_over;
  wrote : Appends (g.T.Sink.written l.fn.tell) (g.T.Sink.written l.tell) prefix;
  calm : g.T.Sink.faults l.tell ≡ g.T.Sink.faults l.fn.tell;
}
