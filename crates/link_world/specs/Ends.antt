-- Clients of schedules that are worked by hand, and what each has at the end.
use Rattle.std.specs.Prelude.{ℕ, List, [], ◌∷◌, Option, None}
use Rattle.link_client.specs.declared.client_state.ClientState.{ClientState}
use Rattle.link_world.specs.History.{Planned}
use Rattle.link_world.specs.World.{Content, Side}
use Rattle.link_world.specs.World.Content.{OfEcho, OfPing, OfSegment}

-- a client at 10.0.0.2: its ISS, its port, the port that it connects to, the number of bytes in each segment, and its request
abbrev pub worked_client : ℕ → ℕ → ℕ → ℕ → List ℕ → Planned
worked_client first port asks seg request = record {
  setup = record {
    addr = record { 0 = 10 ∷ 0 ∷ 0 ∷ 2 ∷ [] };
    port = record { 0 = port };
    mss = 0;
    seg = seg;
    iss = record { 0 = first };
    server = record { 0 = 10 ∷ 0 ∷ 0 ∷ 1 ∷ [] };
    server_port = record { 0 = asks };
  };
  request = request;
}

-- What a client has at the end: its state, the bytes received, and the number of its first stale datagram.
pub record ClientEnd : Type 0 where
  pub state : ClientState
  pub received : List ℕ
  pub first_stale : Option ℕ

abbrev pub end_of_client : Side → ClientEnd
end_of_client side = record { state = side.client.state; received = side.client.received; first_stale = side.first_stale }

abbrev pub clean_end : ClientState → List ℕ → ClientEnd
clean_end state received = record { state = state; received = received; first_stale = None }

-- the text of a datagram; of an ICMP message none
abbrev pub text_of_content : Content → List ℕ
text_of_content (OfSegment id segment) = segment.text
text_of_content (OfPing datagram) = []
text_of_content (OfEcho request) = []
