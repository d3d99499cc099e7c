-- The world before the first line: the server, and the clients of a schedule.
use Rattle.std.specs.List.{enumerate_from}
use Rattle.std.specs.Prelude.{◌≡◌, ℕ, suc, ◌*◌, List, [], ◌∷◌, length, map, Some, slice_get}
use Rattle.uip_wire.specs.declared.addr.Addr.{Addr}
use Rattle.uip_wire.specs.declared.port.TheConstants.{WEB_PORT}
use Rattle.link_client.specs.Prelude.{FitsRequest}
use Rattle.link_schedule.specs.Clients.{Plan}
use Rattle.link_world.specs.Prelude.{World, Planned, IsPlanned, fresh_side, initial_world}
use Rattle.link_replay.specs.Represents.{SideRepresents}
use Rattle.link_replay.specs.Plain.{CodeSide}

-- 10.0.0.1
abbrev pub server : Addr
server = record { 0 = 10 ∷ 0 ∷ 0 ∷ 1 ∷ [] }

-- The client with a number: its ISS is 1000 times that number, and it connects to the web port of the server.
abbrev pub planned : ℕ → Plan → Planned
planned number plan = record {
  setup = record {
    addr = plan.addr;
    port = plan.port;
    mss = plan.mss;
    seg = plan.seg;
    iss = record { 0 = 1000 * number };
    server = server;
    server_port = record { 0 = WEB_PORT };
  };
  request = plan.request;
}

-- clients in order, numbered from a given number
abbrev pub plan_from : ℕ → List Plan → List Planned
plan_from number plans = map (λ p. planned p.0 p.1) (enumerate_from number plans)

-- all clients idle, and no datagram sent
abbrev pub opening_for : List ℕ → List Plan → World
opening_for numbers plans = initial_world server numbers (plan_from 1 plans)

-- a client of the code before its first act
pub record IsFresh (number : ℕ) (plan : Plan) (side : CodeSide) : Type 0 where
  pub represented : SideRepresents side (fresh_side (planned number plan))
  pub fits : FitsRequest side.client side.request
  pub at_server : side.client.setup.server ≡ server
  pub in_range : IsPlanned (planned number plan)

-- the clients of the code in order, numbered from 1
pub record AreFresh (plans : List Plan) (sides : List CodeSide) : Type 0 where
  pub same_length : length sides ≡ length plans
  pub each : (i : ℕ) (plan : Plan) (side : CodeSide) → slice_get plans i ≡ Some plan → slice_get sides i ≡ Some side
      → IsFresh (suc i) plan side
