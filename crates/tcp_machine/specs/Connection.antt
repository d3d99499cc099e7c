-- The abstract connection (RFC 793, section 3.2). Sequence numbers are unbounded offsets, and outstanding segments have an age instead of
-- a timer.
-- [add: state] What an abstract connection has in it.
use Rattle.std.specs.Prelude.{ℕ, ◌+◌, ◌==◌, ◌&&◌, Bool, true, false, List, [], ◌∷◌, if◌then◌else◌, nat_lt, bytes_eq}
use Rattle.uip_wire.specs.Prelude.{wrap}
use Rattle.uip_wire.specs.declared.addr.Addr.{Addr}
use Rattle.uip_wire.specs.declared.port.Port.{Port}
use Rattle.rexmit_timer.specs.Prelude.{count_at, tries_at}
use Rattle.app_events.specs.Prelude.{AppState}
pub use Rattle.app_events.specs.States.{is_live}
use Rattle.app_events.specs.declared.row.Row.{Row}
use Rattle.app_events.specs.declared.state.State.{State}
use Rattle.app_events.specs.declared.state.State.TheVariants.{Closed, FinWait2, TimeWait}

-- The pair of sockets of a connection (RFC 793, section 1.5), without the node's own address, which is the same for all.
pub record Sockets : Type 0 where
  pub peer : Addr
  pub peer_port : Port
  pub own_port : Port

-- Both are the same pair.
abbrev pub same_sockets : Sockets → Sockets → Bool
same_sockets a b = bytes_eq a.peer.0 b.peer.0 && ((a.peer_port.0 == b.peer_port.0) && (a.own_port.0 == b.own_port.0))

-- A connection. After it became CLOSED it keeps its last values.
pub record Connection : Type 0 where
  pub state : State
  pub sockets : Sockets
  pub irs : ℕ  -- the initial receive sequence number (IRS)
  pub taken : ℕ  -- the number of the peer's sequence numbers accepted after the SYN: text and FIN
  pub iss : ℕ  -- the initial send sequence number (ISS)
  pub acked : ℕ  -- the number of own sequence numbers acknowledged, from the ISS: SYN, text, FIN
  pub len : ℕ  -- the number of own sequence numbers outstanding after these
  pub initial_mss : ℕ
  pub mss : ℕ  -- the longest text that may be sent
  pub age : ℕ  -- the ticks since the outstanding segment was first sent, or since FIN-WAIT-2 or TIME-WAIT began
  pub part : AppState  -- the state of its application

-- a connection before its first use
abbrev pub closed : Connection
closed = record {
  state = Closed;
  sockets = record { peer = record { 0 = 0 ∷ 0 ∷ 0 ∷ 0 ∷ [] }; peer_port = record { 0 = 0 }; own_port = record { 0 = 0 } };
  irs = 0;
  taken = 0;
  iss = 0;
  acked = 0;
  len = 0;
  initial_mss = 0;
  mss = 0;
  age = 0;
  part = record { port = 0; input = []; snapshots = []; acked = 0; polls = 0; own = 0 };
}

-- SND.UNA (RFC 793, section 3.2): the lowest sequence number not acknowledged. As in uIP, the field of the code is called `snd_nxt`.
abbrev pub snd_una : Connection → ℕ
snd_una c = wrap (c.iss + c.acked)

-- RCV.NXT: the sequence number expected next
abbrev pub rcv_nxt : Connection → ℕ
rcv_nxt c = wrap (c.irs + 1 + c.taken)

-- The connection is not CLOSED and has these sockets.
abbrev pub serves : Sockets → Connection → Bool
serves sockets c = is_live c.state && same_sockets c.sockets sockets

-- In FIN-WAIT-2 and TIME-WAIT the age counts the time in that state.
abbrev pub is_resting : State → Bool
is_resting FinWait2 = true
is_resting TimeWait = true
is_resting _ = false

-- the number of retransmissions of the outstanding segment
abbrev pub tries_of : Connection → ℕ
tries_of c = if nat_lt 0 c.len then tries_at c.age else 0

-- the ticks until the next retransmission, or the ticks in FIN-WAIT-2 or TIME-WAIT
abbrev pub count_of : Connection → ℕ
count_of c = if nat_lt 0 c.len then count_at c.age else (if is_resting c.state then c.age else 0)

-- the connection in a slot, as a row of the table
abbrev pub row_of : ℕ → Connection → Row
row_of slot c = record {
  slot = slot;
  peer = c.sockets.peer;
  port = c.sockets.peer_port;
  state = c.state;
  tries = tries_of c;
  count = count_of c;
  waiting = nat_lt 0 c.len;
}

-- the rows of the connections that are not CLOSED, in the order of the slots
abbrev pub rows_from : ℕ → List Connection → List Row
rows_from slot [] = []
rows_from slot (c ∷ cs) = if is_live c.state then row_of slot c ∷ rows_from (slot + 1) cs else rows_from (slot + 1) cs
