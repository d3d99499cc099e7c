-- The edge of a node: the event of a received datagram, and the bytes of what is sent.
use Rattle.std.specs.Prelude.{ℕ, List, take, Result, Ok, Err}
use Rattle.std.specs.Option.{option_map_or}
use Rattle.uip_wire.specs.declared.addr.Addr.{Addr}
use Rattle.uip_ipv4.specs.Prelude.{head_or_fate, payload_of}
use Rattle.uip_ipv4.specs.declared.fate.IpFate.{IpFate}
use Rattle.uip_ipv4.specs.declared.head.IpHead.{IpHead}
use Rattle.uip_ipv4.specs.declared.proto.Proto.{Proto}
use Rattle.uip_ipv4.specs.declared.proto.Proto.TheVariants.{Icmp, Tcp}
use Rattle.icmp_echo.specs.Prelude.{echo_fate, echo_reply}
use Rattle.tcp_segment.specs.Prelude.{segment_or_fate, plain_of, PlainSegment, Datagram, datagram_bytes}
use Rattle.tcp_segment.specs.declared.fate.TcpFate.{TcpFate}
use Rattle.tcp_segment.specs.declared.segment.Segment.{Segment}
use Rattle.tcp_machine.specs.Prelude.{Sockets}
use Rattle.uip_node.specs.Events.{Event, Reply}
use Rattle.uip_node.specs.Events.Event.{IpRefused, IcmpRefused, TcpRefused, EchoAsked, Arrived}
use Rattle.uip_node.specs.Events.Reply.{Echo, TcpReply}

-- the sockets that a segment from a peer addresses
abbrev pub sockets_of : Addr → Segment → Sockets
sockets_of peer s = record { peer = peer; peer_port = s.from; own_port = s.to }

abbrev pub by_segment : IpHead → List ℕ → Result Segment TcpFate → Event
by_segment head bytes (Ok s) = Arrived (sockets_of head.source s) (plain_of s bytes)
by_segment head bytes (Err fate) = TcpRefused fate

abbrev pub by_proto : Proto → IpHead → List ℕ → Event
by_proto Icmp head bytes = option_map_or IcmpRefused (echo_fate (payload_of head bytes)) (EchoAsked (take head.total bytes))
by_proto Tcp head bytes = by_segment head bytes (segment_or_fate head bytes)

abbrev pub by_head : List ℕ → Result IpHead IpFate → Event
by_head bytes (Ok head) = by_proto head.proto head bytes
by_head bytes (Err fate) = IpRefused fate

-- The one event of a datagram at this address.
abbrev pub event_of : Addr → List ℕ → Event
event_of addr bytes = by_head bytes (head_or_fate bytes addr.0)

-- the datagram from an address with this identification
abbrev pub datagram_to : Addr → Sockets → ℕ → PlainSegment → Datagram
datagram_to addr sockets id s = record {
  source = addr.0;
  target = sockets.peer.0;
  from = sockets.own_port.0;
  to = sockets.peer_port.0;
  id = id;
  segment = s;
}

-- the bytes of a reply
abbrev pub reply_bytes : Addr → Reply → List ℕ
reply_bytes addr (Echo request) = echo_reply request
reply_bytes addr (TcpReply sockets id again s) = datagram_bytes (datagram_to addr sockets id s)
