-- What is on the wire: where events come from, and that the node's own parser gives back each segment that is sent.
use Rattle.std.specs.Prelude.{◌≡◌, ◌≤◌, All, Bool, length, List, Some, ℕ}
use Rattle.uip_wire.specs.declared.addr.Addr.{Addr}
use Rattle.uip_wire.specs.declared.sizes.TheConstants.{LARGEST_DATAGRAM}
use Rattle.tcp_segment.specs.Prelude.{PlainSegment}
use Rattle.app_events.specs.Prelude.{IsByte}
use Rattle.tcp_machine.specs.Prelude.{Sockets}
use Rattle.uip_node.specs.Prelude.{event_of, reply_bytes, Event, Arrived, Overlong, Periodic, TcpReply}
use Rattle.node_laws.specs.Traces.{TraceEntry}

-- An event that a line can bring: a datagram of any bytes, a frame that is too long, or the call of a slot.
pub data IsOfLine (own : Addr) (event : Event) : Type 0 where
  of_bytes : (bytes : List ℕ) → All IsByte bytes → event ≡ event_of own bytes → IsOfLine own event
  of_overlong : event ≡ Overlong → IsOfLine own event
  of_call : (slot : ℕ) → event ≡ Periodic slot → IsOfLine own event

-- the sockets of a connection as its peer has them
abbrev pub seen_from_peer : Addr → Sockets → Sockets
seen_from_peer own p = record { peer = own; peer_port = p.own_port; own_port = p.peer_port }

-- The node's own parser, at the address of the peer, gives back this segment from its bytes. These are no longer than the largest
-- datagram.
pub record IsDecodedAt (own : Addr) (p : Sockets) (id : ℕ) (again : Bool) (s : PlainSegment) : Type 0 where
  pub read : event_of p.peer (reply_bytes own (TcpReply p id again s)) ≡ Arrived (seen_from_peer own p) s
  pub size : length (reply_bytes own (TcpReply p id again s)) ≤ LARGEST_DATAGRAM

-- The node's own parser, at the address of the peer, gives back the segment of this trace entry, if any.
abbrev pub IsDecoded : Addr → TraceEntry → Type 0
IsDecoded own t =
    (p : Sockets) (id : ℕ) (again : Bool) (s : PlainSegment) → t.sent ≡ Some (TcpReply p id again s) → IsDecodedAt own p id again s
