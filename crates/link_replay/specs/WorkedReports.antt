-- Reports worked by hand.
use Rattle.std.specs.Prelude.{◌≡◌, ℕ, ◌+◌, Bool, true, false, List, [], ◌∷◌, ◌++◌, map, Some, None, codes}
use Rattle.uip_wire.specs.declared.addr.Addr.{Addr}
use Rattle.tcp_segment.specs.declared.flags.TheConstants.{SYN, ACK, PSH}
use Rattle.uip_node.specs.Prelude.{Event, HistoryEntry, tick, EchoAsked, Overlong, Silent, EchoReplied, AbstractNode, initial_node}
use Rattle.link_client.specs.Prelude.{idle}
use Rattle.link_client.specs.declared.setup.Setup.{Setup}
use Rattle.link_client.specs.declared.client_state.ClientState.TheVariants.{Idle, Opening, Opened, Closing, Closed, Ended, Reset}
use Rattle.link_world.specs.Prelude.{World, Side, Sent, Content, OfSegment, OfPing, OfEcho}
use Rattle.link_world.specs.declared.who.Who.{Who}
use Rattle.link_world.specs.declared.who.Who.TheVariants.{FromClient, FromNode, Pinger}
use Rattle.tcp_segment.specs.Prelude.{flag_letters}
use Rattle.link_replay.specs.Report.{report, state_word}

abbrev pub host : ℕ → Addr
host number = record { 0 = 10 ∷ 0 ∷ 0 ∷ number ∷ [] }

-- a client at 10.0.0.2 and a port
abbrev pub setup : ℕ → Setup
setup port = record {
  addr = host 2;
  port = record { 0 = port };
  mss = 0;
  seg = 536;
  iss = record { 0 = 1000 };
  server = host 1;
  server_port = record { 0 = 80 };
}

-- one that never opened
abbrev pub waiting : Side
waiting = record { client = idle (setup 1026) []; history = []; opened = None; first_stale = None }

-- one that is open, received two bytes, and received a stale datagram
abbrev pub served : Side
served = record {
  client = record (idle (setup 1025) []) { state = Opened; received = codes "k~"; expected = 3 };
  history = [];
  opened = Some 0;
  first_stale = Some 2;
}

abbrev pub quiet : Event → HistoryEntry
quiet event = record { event = event; answer = Silent }

-- two ticks, an echo, and an overlong frame
abbrev pub node : AbstractNode
node = record (initial_node (host 1) []) {
  history = map quiet tick ++ (record { event = EchoAsked []; answer = EchoReplied } ∷ quiet Overlong
      ∷ map quiet tick);
}

abbrev pub is_reported : ℕ → ℕ → ℕ → List ℕ → Content
is_reported seq ack flags text = OfSegment 1 (record { seq = seq; ack = ack; flags = flags; window = 1460; mss = None; text = text })

abbrev pub sent : Who → ℕ → Bool → Content → Sent
sent who ticks again content = record { who = who; tick = ticks; epoch = 0; again = again; content = content }

-- a SYN, its reply, an echo, and text that is retransmitted
abbrev pub world : World
world = record {
  node = node;
  sides = served ∷ waiting ∷ [];
  sent = sent (FromClient 1) 0 false (is_reported 1000 0 SYN [])
      ∷ sent (FromNode 1) 0 false (is_reported 4294967295 1001 (SYN + ACK) [])
      ∷ sent Pinger 1 false (OfPing [])
      ∷ sent (FromNode 0) 1 false (OfEcho [])
      ∷ sent (FromNode 1) 2 true (is_reported 0 1001 (ACK + PSH) (codes "k~"))
      ∷ [];
  mark = 0;
}

pub record AreWorkedReports : Type 0 where
  pub short : report false world ≡ codes "client 1 open 2 stale\nclient 2 idle 0 clean\nticks 2 datagrams 5\n"
  pub shown : report true world
      ≡ codes "1 0 c1 S 1000 0\n2 0 n1 SA 4294967295 0\n3 1 p echo 0 0\n4 1 n0 reply 0 0\n5 2 n1 AP 0 2 again\n"
      ++ codes "client 1 open 2 stale 2\ntext 6b7e\nclient 2 idle 0 clean\ntext -\nticks 2 datagrams 5\n"
  pub flags : flag_letters 31 ≡ codes "SAPFR"
  pub no_flags : flag_letters 32 ≡ []
  pub states : map state_word (Idle ∷ Opening ∷ Opened ∷ Closing ∷ Closed ∷ Ended ∷ Reset ∷ [])
      ≡ codes "idle" ∷ codes "opening" ∷ codes "open" ∷ codes "closing" ∷ codes "closed" ∷ codes "ended" ∷ codes "reset" ∷ []
