-- A step that is answered, or not.
use Rattle.uip_node.proofs.Prelude.{ℕ, ◌≡◌, ◌+◌, ◌%◌, length, List, ◌∷◌, Option, Some, None, sym, ap, ◌∙◌, subst, refl, TcpReply}
use Rattle.uip_node.proofs.Prelude.{option_map_or, slice_set, option_map, AppSpec, Ghosts, PlainSegment, datagram_bytes, Outcome}
use Rattle.uip_node.proofs.Prelude.{Connection, is_again, segment_of, Step, CountsRepresent, seen, ident_of, initial_number, datagram_to}
use Rattle.uip_node.proofs.Prelude.{Event, Spoke, Silent, AbstractNode, NodeStep, gone_by, happened, MeetsAt, SlotsRepresent, IsSpoken}
use Rattle.uip_node.proofs.Prelude.{Steps, Counts, Node}
use Rattle.uip_node.proofs.Twice.{next_ident}

-- the reply to an event, by what is sent
abbrev answered_node : AbstractNode → Event → ℕ → Outcome → Option PlainSegment → AbstractNode
answered_node n event slot o output = record n {
  numbers = o.numbers;
  connections = slice_set n.connections slot o.connection;
  history = record { event = event; answer = option_map_or (λ s. Spoke (is_again o.step)) output Silent } ∷ n.history;
}

abbrev answered : AbstractNode → Event → ℕ → Outcome → Option Connection → Option PlainSegment → NodeStep
answered n event slot o gone output = record {
  node = answered_node n event slot o output;
  sent = option_map (λ s. TcpReply o.connection.sockets (ident_of (answered_node n event slot o output).history) (is_again o.step) s) output;
  gone = gone;
}

spoken_by : {A S : Type 0} (g : Ghosts A S) (node : Node A S) (len : ℕ) (id : ℕ) (n : AbstractNode) (event : Event) (slot : ℕ) (o : Outcome)
    (gone : Option Connection) (output : Option PlainSegment) (result : Option ℕ) →
    node.addr ≡ n.addr → node.table.iss ≡ initial_number (seen event n.history)
    → CountsRepresent node.counts (record { event = event; answer = Spoke (is_again o.step) } ∷ n.history) →
    id ≡ ident_of (record { event = event; answer = Spoke (is_again o.step) } ∷ n.history) →
    SlotsRepresent g (g.config node.shared) node.table.conns (slice_set n.connections slot o.connection) → g.numbers node.shared ≡ o.numbers →
    IsSpoken node.addr o.connection.sockets id output result node.packet → result ≡ Some len
    → initial_number (record { event = event; answer = Spoke (is_again o.step) } ∷ n.history) ≡ initial_number (seen event n.history) →
    Steps g node (Some len) (answered n event slot o gone output)
spoken_by g node len id n event slot o gone None result addr iss counts same slots counted spoken is kept_iss = cc
spoken_by g node len id n event slot o gone (Some s) result addr iss counts same slots counted spoken is kept_iss =
    let e = ap (λ (i : ℕ). datagram_bytes (datagram_to node.addr o.connection.sockets i s)) same in
    record {
      represented = record { addr = addr; slots = slots; iss = iss ∙ sym kept_iss; numbers_represented = counted; counts = counts };
      sent = record {
        answer = sym is ∙ (spoken.answer ∙ ap (λ (xs : List ℕ). Some (length xs)) e);
        datagram = spoken.datagram ∙ e;
      };
    }

pub speaks : {A S : Type 0} (g : Ghosts A S) (m : AppSpec) (node : Node A S) (before : Counts) (len : ℕ) (n : AbstractNode) (event : Event)
    (slot : ℕ) (old : Connection) (o : Outcome) (step : Step) (result : Option ℕ) →
    node.addr ≡ n.addr → node.table.iss ≡ initial_number (seen event n.history) → CountsRepresent before (seen event n.history)
    → CountsRepresent node.counts (record { event = event; answer = Spoke (is_again step) } ∷ n.history) →
    MeetsAt g (g.config node.shared) node.table.conns (g.numbers node.shared) step n.connections slot o →
    IsSpoken node.addr o.connection.sockets ((before.ident + 1) % 65536) (segment_of m o.connection step) result node.packet → result ≡ Some len →
    Steps g node (Some len) (happened m n event slot old o)
unfolding happened
speaks g m node before len n event slot old o step result addr iss before_represents counts meets spoken is =
    spoken_by g node len ((before.ident + 1) % 65536) n event slot o (gone_by old o.connection) (segment_of m o.connection o.step) result addr iss
    (subst (λ (s : Step). CountsRepresent node.counts (record { event = event; answer = Spoke (is_again s) } ∷ n.history)) meets.asked counts)
    (next_ident before event (is_again o.step) n.history before_represents) meets.slots meets.counted
    (subst (λ (s : Step). IsSpoken node.addr o.connection.sockets ((before.ident + 1) % 65536) (segment_of m o.connection s) result
    node.packet) meets.asked spoken) is refl

silent_by : {A S : Type 0} (g : Ghosts A S) (node : Node A S) (id : ℕ) (n : AbstractNode) (event : Event) (slot : ℕ) (o : Outcome)
    (gone : Option Connection) (output : Option PlainSegment) (result : Option ℕ) →
    node.addr ≡ n.addr → node.table.iss ≡ initial_number (seen event n.history) → CountsRepresent node.counts (seen event n.history) →
    SlotsRepresent g (g.config node.shared) node.table.conns (slice_set n.connections slot o.connection) → g.numbers node.shared ≡ o.numbers →
    IsSpoken node.addr o.connection.sockets id output result node.packet → result ≡ None →
    Steps g node None (answered n event slot o gone output)
silent_by g node id n event slot o gone None result addr iss counts slots counted spoken is = record {
  represented = record { addr = addr; slots = slots; iss = iss; numbers_represented = counted; counts = counts };
  sent = refl;
}
silent_by g node id n event slot o gone (Some s) result addr iss counts slots counted spoken is =
    let e = sym is ∙ spoken.answer in cc

pub sends_nothing : {A S : Type 0} (g : Ghosts A S) (m : AppSpec) (node : Node A S) (id : ℕ) (n : AbstractNode) (event : Event) (slot : ℕ)
    (old : Connection) (o : Outcome) (step : Step) (result : Option ℕ) →
    node.addr ≡ n.addr → node.table.iss ≡ initial_number (seen event n.history) → CountsRepresent node.counts (seen event n.history) →
    MeetsAt g (g.config node.shared) node.table.conns (g.numbers node.shared) step n.connections slot o →
    IsSpoken node.addr o.connection.sockets id (segment_of m o.connection step) result node.packet → result ≡ None →
    Steps g node None (happened m n event slot old o)
unfolding happened
sends_nothing g m node id n event slot old o step result addr iss counts meets spoken is =
    silent_by g node id n event slot o (gone_by old o.connection) (segment_of m o.connection o.step) result addr iss counts meets.slots meets.counted
    (subst (λ (s : Step). IsSpoken node.addr o.connection.sockets id (segment_of m o.connection s) result node.packet) meets.asked spoken) is
