-- What is exchanged on one pair of sockets, event by event, and the incarnations of its connections. Only segments on the line define
-- these.
use Rattle.std.specs.Option.{option_map_or}
use Rattle.std.specs.Prelude.{◌≡◌, ◌&&◌, ℕ, Bool, true, false, List, [], ◌∷◌, ◌++◌, Option, Some, None, is_some, if◌then◌else◌, slice_get}
use Rattle.tcp_segment.specs.Prelude.{PlainSegment, has_syn}
use Rattle.tcp_machine.specs.Prelude.{Sockets, same_sockets}
use Rattle.uip_node.specs.Prelude.{Event, Reply, Arrived, TcpReply}

-- One event as it concerns one pair of sockets: the segment received on the pair and the segment sent on it.
pub record Exchange : Type 0 where
  pub received : Option PlainSegment
  pub output : Option PlainSegment

-- the segment that an event brings on this pair of sockets
abbrev pub received_from : Sockets → Event → Option PlainSegment
received_from p (Arrived sockets s) = if same_sockets sockets p then Some s else None
received_from p _ = None

-- the segment that a reply sends on this pair
abbrev pub sent_to : Sockets → Option Reply → Option PlainSegment
sent_to p (Some (TcpReply sockets id again s)) = if same_sockets sockets p then Some s else None
sent_to p _ = None

abbrev pub exchange : Sockets → Event → Option Reply → Exchange
exchange p event sent = record { received = received_from p event; output = sent_to p sent }

-- An event, and the datagram that the node sends at it.
pub record TraceEntry : Type 0 where
  pub event : Event
  pub sent : Option Reply

-- one reply, if any, before the others
abbrev pub with_first : Option Reply → List Reply → List Reply
with_first None replies = replies
with_first (Some reply) replies = reply ∷ replies

-- the replies of a trace, the oldest first
abbrev pub replies_of : List TraceEntry → List Reply
replies_of [] = []
replies_of (t ∷ trace) = with_first t.sent (replies_of trace)

-- the exchanges of a trace on a pair, the newest first, prepended to those before
abbrev pub exchanges_onto : Sockets → List TraceEntry → List Exchange → List Exchange
exchanges_onto p [] before = before
exchanges_onto p (t ∷ trace) before = exchanges_onto p trace (exchange p t.event t.sent ∷ before)

-- the exchanges of a trace on a pair, the newest first
abbrev pub exchanges_with : Sockets → List TraceEntry → List Exchange
exchanges_with p trace = exchanges_onto p trace []

-- the segment sent, and the segment received, in the exchange with this index; the newest has index 0
abbrev pub sent_at : List Exchange → ℕ → Option PlainSegment
sent_at incarnation place = option_map_or (λ x. x.output) (slice_get incarnation place) None

abbrev pub received_at : List Exchange → ℕ → Option PlainSegment
received_at incarnation place = option_map_or (λ x. x.received) (slice_get incarnation place) None

-- An exchange opens a connection if it received a segment and sent one with SYN.
abbrev pub is_opening : Exchange → Bool
is_opening x = is_some x.received && option_map_or (λ s. has_syn s.flags) x.output false

abbrev pub is_empty : List Exchange → Bool
is_empty [] = true
is_empty (x ∷ older) = false

-- The oldest of these exchanges opens a connection, and no other does.
abbrev pub is_incarnation : List Exchange → Bool
is_incarnation [] = false
is_incarnation (x ∷ older) = if is_opening x then is_empty older else is_incarnation older

-- An incarnation among these exchanges, up to any point before the next one begins.
pub record IsIncarnationIn (exchanges incarnation : List Exchange) : Type 0 where
  pub later : List Exchange
  pub before : List Exchange
  pub split : exchanges ≡ later ++ (incarnation ++ before)
  pub is : is_incarnation incarnation ≡ true
