use Rattle.udp_resolver.proofs.Prelude.{◌≡◌, ◌++◌, List, false, length, map, take, Item, Byte, is_given_up, questions, events}
use Rattle.udp_resolver.proofs.Prelude.{RunRepresents}
use Rattle.udp_resolver.proofs.run.Run.take.Given as goal

abbrev pub invariant-loop-byte : goal.invariant-loop-byte
invariant-loop-byte l = record {
  each : length l.self.answers.items ≡ length l.names;
  clock : l.self.clock ≡ l.fn.self.clock;
  knows : (items : List Item) → is_given_up (events items) ≡ false → RunRepresents (questions l.asking l.names) items l.fn.self
      → RunRepresents (questions l.asking l.names) (items ++ map Byte (take l.byte-index l.bytes)) l.self;
}
