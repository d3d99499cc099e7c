-- The events of a node, and what it sends at them.
use Rattle.std.specs.Prelude.{ℕ, Bool, List, [], ◌∷◌}
use Rattle.uip_ipv4.specs.declared.fate.IpFate.{IpFate}
use Rattle.icmp_echo.specs.declared.fate.IcmpFate.{IcmpFate}
use Rattle.tcp_segment.specs.declared.fate.TcpFate.{TcpFate}
use Rattle.tcp_segment.specs.Prelude.{PlainSegment}
use Rattle.tcp_machine.specs.Prelude.{Sockets}

-- An event of a line. A datagram causes exactly one: a check refuses it (`fate` names the check), or it is an echo request, or it carries
-- a segment.
pub data Event : Type 0 where
  IpRefused : (fate : IpFate) → Event
  IcmpRefused : (fate : IcmpFate) → Event
  TcpRefused : (fate : TcpFate) → Event
  EchoAsked : (datagram : List ℕ) → Event
  Arrived : (sockets : Sockets) (segment : PlainSegment) → Event
  Overlong : Event  -- a frame longer than the largest datagram
  Periodic : (slot : ℕ) → Event  -- the call of a slot

-- The kind of a reply, as far as it is counted.
pub data Answer : Type 0 where
  Silent : Answer
  NoSlot : Answer  -- a plain SYN to a served port found no slot
  EchoReplied : Answer
  Spoke : (again : Bool) → Answer  -- a TCP datagram was sent; `again` marks a retransmission

-- An event of the history and the kind of its reply.
pub record HistoryEntry : Type 0 where
  pub event : Event
  pub answer : Answer

-- A datagram that the node sends: an echo reply, or a segment with its IP identification `id`; `again` marks a retransmission.
pub data Reply : Type 0 where
  Echo : (request : List ℕ) → Reply
  TcpReply : (sockets : Sockets) (id : ℕ) (again : Bool) (segment : PlainSegment) → Reply

-- a tick is a periodic call of each slot, in order
abbrev pub tick : List Event
tick = Periodic 0 ∷ Periodic 1 ∷ Periodic 2 ∷ Periodic 3 ∷ Periodic 4 ∷ Periodic 5 ∷ Periodic 6 ∷ Periodic 7 ∷ Periodic 8 ∷ Periodic 9 ∷ []
