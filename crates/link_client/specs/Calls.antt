-- What the calls of a client of the code do: the abstract client that it represents, what it receives in a datagram, and the
-- datagram that it sends, at the start of an area.
use Rattle.std.specs.Prelude.{ℕ, ◌≡◌, ◌+◌, ◌≤◌, ◌==◌, ◌&&◌, ◌||◌, not, nat_lt, Bool, true, false, List, ◌++◌, length, take, drop}
use Rattle.std.specs.Prelude.{if◌then◌else◌, Option, Some, None, Result, Ok, Err, bytes_eq}
use Rattle.uip_ipv4.specs.Prelude.{head_or_fate}
use Rattle.uip_ipv4.specs.declared.fate.IpFate.{IpFate}
use Rattle.uip_ipv4.specs.declared.head.IpHead.{IpHead}
use Rattle.uip_ipv4.specs.declared.proto.Proto.{Proto}
use Rattle.uip_ipv4.specs.declared.proto.Proto.TheVariants.{Icmp, Tcp}
use Rattle.tcp_segment.specs.Prelude.{plain_of, segment_or_fate, PlainSegment, Datagram, datagram_bytes}
use Rattle.tcp_segment.specs.declared.fate.TcpFate.{TcpFate}
use Rattle.tcp_segment.specs.declared.segment.Segment.{Segment}
use Rattle.link_client.specs.Client.{AbstractClient, ClientStep, client_takes, fin_sent, is_receiving, keeps, may_finish, has_outstanding}
use Rattle.link_client.specs.State.{Client}
use Rattle.link_client.specs.declared.client_state.ClientState.{ClientState}
use Rattle.link_client.specs.declared.client_state.ClientState.TheVariants.{Idle, Opening, Reset}
use Rattle.link_client.specs.declared.setup.Setup.{Setup}

-- a client of the code with its request and the bytes that it accepted, as an abstract client
abbrev pub abstract_client : Client → List ℕ → List ℕ → AbstractClient
abstract_client c request received = record {
  setup = c.setup;
  request = request;
  state = c.state;
  received = received;
  acked = c.acked;
  out = c.out;
  fin = c.fin;
  expected = c.rcv.0;
  window = c.window;
}

-- What ties a client to its request: what it sent of it is in it, and it has at most 4096 bytes.
pub record FitsRequest (c : Client) (request : List ℕ) : Type 0 where
  pub within : c.acked + c.out ≤ length request
  pub short : length request ≤ 4096

-- the datagram of a client's segment (RFC 791, RFC 793): identification 0
abbrev pub client_datagram : Setup → PlainSegment → Datagram
client_datagram setup s = record {
  source = setup.addr.0;
  target = setup.server.0;
  from = setup.port.0;
  to = setup.server_port.0;
  id = 0;
  segment = s;
}

-- the bytes are at the start of the area
pub record LiesAtStart (bytes : List ℕ) (sent : Option ℕ) (area : List ℕ) : Type 0 where
  pub answer : sent ≡ Some (length bytes)
  pub prefix : take (length bytes) area ≡ bytes

-- what is sent, if anything is, is at the start of the area
abbrev pub Sends : Setup → Option PlainSegment → Option ℕ → List ℕ → Type 0
Sends setup None sent area = sent ≡ None
Sends setup (Some s) sent area = LiesAtStart (datagram_bytes (client_datagram setup s)) sent area

-- after the datagram that is sent, if one is, the area is unchanged
abbrev pub KeepsAfter : Option ℕ → List ℕ → List ℕ → Type 0
KeepsAfter None old new = new ≡ old
KeepsAfter (Some len) old new = drop len new ≡ drop len old

-- a call did this step
pub record Did (step : ClientStep) (after : AbstractClient) (answer : Option ℕ) (area : List ℕ) : Type 0 where
  pub client : step.client ≡ after
  pub sent : Sends after.setup step.sent answer area

-- What a client receives in a datagram: a segment of its server, or nothing.
abbrev pub received_in : Setup → IpHead → List ℕ → Result Segment TcpFate → Option PlainSegment
received_in setup head bytes (Ok s) =
    if bytes_eq head.source.0 setup.server.0 && ((s.from.0 == setup.server_port.0) && (s.to.0 == setup.port.0)) then Some (plain_of s bytes)
    else None
received_in setup head bytes (Err fate) = None

abbrev pub received_by_proto : Proto → Setup → IpHead → List ℕ → Option PlainSegment
received_by_proto Icmp setup head bytes = None
received_by_proto Tcp setup head bytes = received_in setup head bytes (segment_or_fate head bytes)

abbrev pub received_by_head : Setup → List ℕ → Result IpHead IpFate → Option PlainSegment
received_by_head setup bytes (Ok head) = received_by_proto head.proto setup head bytes
received_by_head setup bytes (Err fate) = None

abbrev pub client_receives : Setup → List ℕ → Option PlainSegment
client_receives setup bytes = received_by_head setup bytes (head_or_fate bytes setup.addr.0)

-- the step on a datagram
abbrev pub client_hands : AbstractClient → Option PlainSegment → ClientStep
client_hands c None = keeps c
client_hands c (Some s) = client_takes c s

-- a call did this step, and a client with this request accepted these bytes
abbrev pub DidAccepting : (AbstractClient → ClientStep) → List ℕ → List ℕ → Client → Client → Option ℕ → List ℕ → Type 0
DidAccepting f request accepted old new answer area =
    (received : List ℕ) → Did (f (abstract_client old request received)) (abstract_client new request (received ++ accepted)) answer area

-- the bytes that it accepted before, and the text if it accepts that too
abbrev pub received_with : Bool → List ℕ → List ℕ → List ℕ
received_with true received text = received ++ text
received_with false received text = received

-- a call did this step at a segment of this text; a client with this request accepted the text or not
abbrev pub DidAtText : (AbstractClient → ClientStep) → List ℕ → List ℕ → Bool → Client → Client → Option ℕ → List ℕ → Type 0
DidAtText f request text took old new answer area =
    (received : List ℕ) → Did (f (abstract_client old request received))
    (abstract_client new request (received_with took received text)) answer area

-- it has sent a segment, and was not reset
abbrev pub has_spoken : ClientState → Bool
has_spoken Idle = false
has_spoken Reset = false
has_spoken _ = true

-- it accepts text, and has not closed
abbrev pub is_opened : ClientState → Bool
is_opened state = is_receiving state && not (may_finish state)

-- it sends request bytes or its FIN next
abbrev pub has_more_to_send : AbstractClient → Bool
has_more_to_send c =
    not (has_outstanding c)
    && ((is_receiving c.state && nat_lt c.acked (length c.request)) || (may_finish c.state && not (fin_sent c.fin)))

-- it can still be aborted: the server's FIN is not yet received
abbrev pub can_abort : ClientState → Bool
can_abort Opening = true
can_abort state = is_receiving state
