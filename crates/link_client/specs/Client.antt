-- The abstract client of a replay, and its step (RFC 793, section 3.9, with one segment outstanding).
use Rattle.std.specs.Prelude.{ℕ, ◌+◌, ◌-◌, min, Bool, true, false, not, List, [], ◌++◌, length, take}
use Rattle.std.specs.Prelude.{drop, nat_lt, ◌==◌, ◌&&◌, ◌||◌, if◌then◌else◌, Option, Some, None}
use Rattle.uip_wire.specs.Prelude.{wrap}
use Rattle.tcp_segment.specs.declared.flags.TheConstants.{FIN, SYN, RST, PSH, ACK}
use Rattle.tcp_segment.specs.Prelude.{PlainSegment, has_syn, has_fin, has_rst, has_ack}
use Rattle.tcp_machine.specs.Prelude.{occupies_sequence_space}
use Rattle.link_client.specs.declared.client_state.ClientState.{ClientState}
use Rattle.link_client.specs.declared.client_state.ClientState.TheVariants.{Idle, Opening, Opened, Closing, Closed, Ended, Reset}
use Rattle.link_client.specs.declared.fin_at.FinAt.{FinAt}
use Rattle.link_client.specs.declared.setup.Setup.{Setup}

pub record AbstractClient : Type 0 where
  pub setup : Setup
  pub request : List ℕ
  pub state : ClientState
  pub received : List ℕ  -- the bytes of its page that it took
  pub acked : ℕ  -- acknowledged request bytes
  pub out : ℕ  -- request bytes outstanding
  pub fin : FinAt
  pub expected : ℕ  -- the number that it expects next
  pub window : ℕ

-- a client before its first act
abbrev pub idle : Setup → List ℕ → AbstractClient
idle setup request = record {
  setup = setup;
  request = request;
  state = Idle;
  received = [];
  acked = 0;
  out = 0;
  fin = FinAt.NotSent;
  expected = 0;
  window = 65535;
}

-- the client after a call, and what it sends
pub record ClientStep : Type 0 where
  pub client : AbstractClient
  pub sent : Option PlainSegment

abbrev pub keeps : AbstractClient → ClientStep
keeps c = record { client = c; sent = None }

abbrev pub steps_with : AbstractClient → PlainSegment → ClientStep
steps_with c s = record { client = c; sent = Some s }

-- Its normal close: it received the server's FIN in sequence.
abbrev pub has_closed : ClientState → Bool
has_closed Closed = true
has_closed Ended = true
has_closed _ = false

-- it accepts text
abbrev pub is_receiving : ClientState → Bool
is_receiving Opened = true
is_receiving Closing = true
is_receiving _ = false

-- it has nothing more to request
abbrev pub may_finish : ClientState → Bool
may_finish Closing = true
may_finish state = has_closed state

abbrev pub fin_sent : FinAt → Bool
fin_sent FinAt.NotSent = false
fin_sent _ = true

abbrev pub fin_out : FinAt → Bool
fin_out FinAt.Out = true
fin_out _ = false

abbrev pub one_if : Bool → ℕ
one_if true = 1
one_if false = 0

abbrev pub own_first : AbstractClient → ℕ
own_first c = c.setup.iss.0

-- the number after all that it sent
abbrev pub next_own : AbstractClient → ℕ
next_own c = wrap (own_first c + 1 + c.acked + c.out + one_if (fin_sent c.fin))

-- something of its own is outstanding
abbrev pub has_outstanding : AbstractClient → Bool
has_outstanding c = nat_lt 0 c.out || fin_out c.fin

-- The segments that it sends.
abbrev pub offered : ℕ → Option ℕ
offered mss = if mss == 0 then None else Some mss

abbrev pub syn_of : AbstractClient → PlainSegment
syn_of c = record { seq = own_first c; ack = 0; flags = SYN; window = c.window; mss = offered c.setup.mss; text = [] }

abbrev pub ack_of : AbstractClient → PlainSegment
ack_of c = record { seq = next_own c; ack = c.expected; flags = ACK; window = c.window; mss = None; text = [] }

abbrev pub own_request : AbstractClient → PlainSegment
own_request c =
    record (ack_of c) { seq = wrap (own_first c + 1 + c.acked); flags = ACK + PSH; text = take c.out (drop c.acked c.request) }

abbrev pub own_fin : AbstractClient → PlainSegment
own_fin c = record (ack_of c) { seq = wrap (own_first c + 1 + c.acked + c.out); flags = FIN + ACK }

abbrev pub own_reset : AbstractClient → PlainSegment
own_reset c = record (ack_of c) { flags = RST + ACK }

-- What it sends next: request bytes, its FIN, or a bare ACK if one is owed. One thing is outstanding at a time.
unfoldable pub sends_next : Bool → AbstractClient → ClientStep
sends_next owed c =
    if not (has_outstanding c) && (is_receiving c.state && nat_lt c.acked (length c.request)) then
    (let d : AbstractClient = record c { out = min c.setup.seg (length c.request - c.acked) } in steps_with d (own_request d))
    else if not (has_outstanding c) && (may_finish c.state && not (fin_sent c.fin)) then
    steps_with (record c { fin = FinAt.Out }) (own_fin c)
    else if owed then steps_with c (ack_of c)
    else keeps c

-- what is outstanding is acknowledged if the number is its next own one
abbrev pub receives_ack : AbstractClient → PlainSegment → AbstractClient
receives_ack c s =
    if has_ack s.flags && (has_outstanding c && (s.ack == next_own c))
    then record c { acked = c.acked + c.out; out = 0; fin = (if fin_out c.fin then FinAt.Acked else c.fin) }
    else c

-- the state after the server's FIN
abbrev pub after_fin : ClientState → ClientState
after_fin Opened = Closed
after_fin Closing = Ended
after_fin state = state

-- the text of a segment at RCV.NXT, and then its FIN
abbrev pub takes_text : AbstractClient → PlainSegment → AbstractClient
takes_text c s = record c {
  received = c.received ++ s.text;
  expected = wrap (c.expected + length s.text + one_if (has_fin s.flags));
  state = (if has_fin s.flags then after_fin c.state else c.state);
}

unfoldable pub takes_in_order : AbstractClient → PlainSegment → ClientStep
takes_in_order c s =
    if has_syn s.flags then sends_next true c
    else if not (occupies_sequence_space s) then sends_next false c
    else if (s.seq == c.expected) && is_receiving c.state then sends_next true (takes_text c s)
    else sends_next true c

abbrev pub opened_by : AbstractClient → PlainSegment → AbstractClient
opened_by c s = record c { state = Opened; expected = wrap (s.seq + 1) }

-- a RST is valid as the answer to the SYN, and later at RCV.NXT
abbrev pub is_reset_by : ClientState → AbstractClient → PlainSegment → Bool
is_reset_by Opening c s = has_ack s.flags && (s.ack == wrap (own_first c + 1))
is_reset_by state c s = is_receiving state && (s.seq == c.expected)

-- the client after a RST
abbrev pub reset_by : AbstractClient → PlainSegment → AbstractClient
reset_by c s = if is_reset_by c.state c s then record c { state = Reset } else c

unfoldable pub takes_by : ClientState → AbstractClient → PlainSegment → ClientStep
takes_by Idle c s = keeps c
takes_by Reset c s = keeps c
takes_by Opening c s =
    if has_syn s.flags && (has_ack s.flags && (s.ack == wrap (own_first c + 1))) then sends_next true (opened_by c s)
    else keeps c
takes_by _ c s = takes_in_order (receives_ack c s) s

-- the step on a segment of the server
unfoldable pub client_takes : AbstractClient → PlainSegment → ClientStep
client_takes c s =
    if has_rst s.flags then keeps (reset_by c s)
    else takes_by c.state c s

-- Its own acts.
unfoldable pub opens_by : ClientState → AbstractClient → ClientStep
opens_by Idle c = let d : AbstractClient = record c { state = Opening } in steps_with d (syn_of d)
opens_by _ c = keeps c

unfoldable pub again_by : ClientState → AbstractClient → ClientStep
again_by Idle c = keeps c
again_by Reset c = keeps c
again_by Opening c = steps_with c (syn_of c)
again_by _ c =
    if nat_lt 0 c.out then steps_with c (own_request c)
    else if fin_out c.fin then steps_with c (own_fin c)
    else steps_with c (ack_of c)

unfoldable pub closes_by : ClientState → AbstractClient → ClientStep
closes_by Opened c = sends_next false (record c { state = Closing })
closes_by _ c = keeps c

unfoldable pub aborts_by : ClientState → AbstractClient → ClientStep
aborts_by Opening c = steps_with (record c { state = Reset }) (own_reset c)
aborts_by Opened c = steps_with (record c { state = Reset }) (own_reset c)
aborts_by Closing c = steps_with (record c { state = Reset }) (own_reset c)
aborts_by _ c = keeps c

abbrev pub client_opens : AbstractClient → ClientStep
client_opens c = opens_by c.state c

abbrev pub client_again : AbstractClient → ClientStep
client_again c = again_by c.state c

abbrev pub client_closes : AbstractClient → ClientStep
client_closes c = closes_by c.state c

abbrev pub client_aborts : AbstractClient → ClientStep
client_aborts c = aborts_by c.state c

abbrev pub advertises_window : ℕ → AbstractClient → ClientStep
advertises_window window c = keeps (record c { window = window })
