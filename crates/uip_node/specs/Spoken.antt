-- The result of a call, and the contents of the packet after it.
use Rattle.std.specs.Prelude.{ℕ, ◌≡◌, List, length, Option, Some, None}
use Rattle.uip_wire.specs.declared.addr.Addr.{Addr}
use Rattle.packet_buffer.specs.Prelude.{Buffer, datagram_in}
use Rattle.tcp_segment.specs.Prelude.{PlainSegment, datagram_bytes}
use Rattle.tcp_machine.specs.Prelude.{Connection, Sockets, rcv_nxt, snd_una}
use Rattle.uip_node.specs.Edge.{datagram_to, reply_bytes}
use Rattle.uip_node.specs.Events.{Reply}
use Rattle.uip_node.specs.declared.output.Heading.{Heading}

-- the segment of a connection with this heading and text
abbrev pub headed : Heading → Connection → List ℕ → PlainSegment
headed heading c text = record {
  seq = snd_una c;
  ack = rcv_nxt c;
  flags = heading.flags;
  window = heading.window;
  mss = heading.mss;
  text = text;
}

-- The packet contains these bytes, and the result is their length.
pub record IsBytes (bytes : List ℕ) (result : Option ℕ) (packet : Buffer) : Type 0 where
  pub answer : result ≡ Some (length bytes)
  pub datagram : datagram_in packet ≡ bytes

-- A segment is sent, or nothing.
abbrev pub IsSpoken : Addr → Sockets → ℕ → Option PlainSegment → Option ℕ → Buffer → Type 0
IsSpoken own sockets id None result packet = result ≡ None
IsSpoken own sockets id (Some s) result packet = IsBytes (datagram_bytes (datagram_to own sockets id s)) result packet

-- A reply is sent, or nothing.
abbrev pub IsSent : Addr → Option Reply → Option ℕ → Buffer → Type 0
IsSent own None result packet = result ≡ None
IsSent own (Some reply) result packet = IsBytes (reply_bytes own reply) result packet
