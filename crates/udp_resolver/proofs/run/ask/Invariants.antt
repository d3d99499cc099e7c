use Rattle.udp_resolver.proofs.Prelude.{◌≡◌, ◌≤◌, ◌+◌, [], List, length, ◌⊎◌, Appends, TEXT_LIMIT, Consumes, Item, line_view, IsCalm}
use Rattle.udp_resolver.proofs.Prelude.{LARGEST_DATAGRAM, line_text, questions, events, LastAsked, RunRepresents}
use Rattle.udp_resolver.proofs.run.ask.Given as goal

abbrev pub invariant-loop-asking : goal.invariant-loop-asking
invariant-loop-asking g l = record {
  tries : l.run.clock.timer.tries ≤ TEXT_LIMIT;
  area : length l.packet.area ≡ LARGEST_DATAGRAM;
  each : length l.run.answers.items ≡ length l.names;
  taken : List Item;
  consumed : Consumes (g.L.Link.coming l.fn.link) (g.L.Link.coming l.link) taken;
  number : length taken + l.left ≡ l.items;
  needed : (taken ≡ []) ⊎ LastAsked (questions l.asking l.names) taken;
  knows : RunRepresents (questions l.asking l.names) taken l.run;
  wrote : Appends (g.K.Sink.written l.fn.out) (g.K.Sink.written l.out) (line_text (questions l.asking l.names) (events taken));
  calm : IsCalm (line_view g.L.Link g.K.Sink l.fn.link l.fn.out) (line_view g.L.Link g.K.Sink l.link l.out);
}

abbrev pub decreases-loop-asking : goal.decreases-loop-asking
decreases-loop-asking g l = l.left
