-- A summary worked by hand.
use Rattle.std.specs.Prelude.{◌≡◌, ℕ, Bool, true, false, List, [], ◌∷◌, Option, Some, None, codes}
use Rattle.uip_wire.specs.declared.addr.Addr.{Addr}
use Rattle.uip_node.specs.Prelude.{initial_node}
use Rattle.link_client.specs.Prelude.{idle}
use Rattle.link_client.specs.declared.setup.Setup.{Setup}
use Rattle.link_client.specs.declared.client_state.ClientState.{ClientState}
use Rattle.link_client.specs.declared.client_state.ClientState.TheVariants.{Opened, Closing, Closed, Reset}
use Rattle.link_world.specs.Prelude.{World, Side, Sent, OfPing}
use Rattle.link_world.specs.declared.who.Who.TheVariants.{Pinger}
use Rattle.link_replay.specs.Summary.{summary_of}

abbrev pub host : ℕ → Addr
host number = record { 0 = 10 ∷ 0 ∷ 0 ∷ number ∷ [] }

abbrev pub setup : Setup
setup = record {
  addr = host 2;
  port = record { 0 = 1025 };
  mss = 0;
  seg = 536;
  iss = record { 0 = 1000 };
  server = host 1;
  server_port = record { 0 = 80 };
}

-- a client in a state, with this much of its page
abbrev pub client : ClientState → List ℕ → Option ℕ → Side
client state received stale =
    record { client = record (idle setup []) { state = state; received = received }; history = []; opened = None; first_stale = stale }

abbrev pub sent : Bool → Sent
sent again = record { who = Pinger; tick = 0; epoch = 0; again = again; content = OfPing [] }

-- five clients, of whom one is not clean, and three datagrams, of which one is a retransmission
abbrev pub world : World
world = record {
  node = initial_node (host 1) [];
  sides = client Closed (codes "page") None ∷ client Closed (codes "page one") None ∷ client Opened (codes "p") (Some 2)
      ∷ client Reset [] None ∷ client Closing [] None ∷ [];
  sent = sent false ∷ sent true ∷ sent false ∷ [];
  mark = 0;
}

pub record AreWorkedSummaries : Type 0 where
  pub of_five : summary_of world ≡ codes "closed 2 open 1 reset 1 other 1 stale 1 bytes 13 datagrams 3 again 1\n"
  pub of_none : summary_of (record world { sides = []; sent = [] })
      ≡ codes "closed 0 open 0 reset 0 other 0 stale 0 bytes 0 datagrams 0 again 0\n"
