-- What the history of a world determines about a client: its snapshots and its page.
use Rattle.std.specs.List.{All}
use Rattle.std.specs.Option.{option_map_or}
use Rattle.std.specs.Prelude.{ℕ, ◌≡◌, ◌<◌, ◌≤◌, List, [], length, map, nat_lt, if◌then◌else◌, Bool, Some, None, slice_get, slice_index_or}
use Rattle.uip_wire.specs.declared.addr.Addr.{Addr}
use Rattle.app_events.specs.Prelude.{Snapshot, Pages, IsAddr, IsByte, IsU32}
use Rattle.tcp_machine.specs.Prelude.{Sockets, Connection, closed}
use Rattle.uip_node.specs.Prelude.{serving, initial_node}
use Rattle.link_client.specs.Prelude.{idle}
use Rattle.link_client.specs.declared.setup.Setup.{Setup}
use Rattle.link_world.specs.World.{World, Side, PastConnection, client_sockets, past_connection_of}

-- the ISS and the captured snapshots of the connection of an epoch; for the present epoch, those of the connection that is not CLOSED
abbrev pub era : List PastConnection → Connection → ℕ → PastConnection
era history c o = if nat_lt o (length history) then slice_index_or history o (past_connection_of closed) else past_connection_of c

-- the snapshots captured for a client: those of the server's connection of the epoch in which it opened
abbrev pub captures_of : World → Side → List Snapshot
captures_of w side = option_map_or (λ o. (era side.history (serving (client_sockets side) w.node.connections) o).snapshots) side.opened []

-- the page of a client: that of its whole request and its snapshots
abbrev pub page_of : Pages → World → Side → List ℕ
page_of pages w side = pages.page side.client.request (captures_of w side)

abbrev pub is_whole : Pages → World → Side → Bool
is_whole pages w side = pages.complete side.client.request (captures_of w side)

-- A client in a plan.
pub record Planned : Type 0 where
  pub setup : Setup
  pub request : List ℕ

-- the plan of a client
abbrev pub planned_of : Side → Planned
planned_of side = record { setup = side.client.setup; request = side.client.request }

abbrev pub fresh_side : Planned → Side
fresh_side p = record { client = idle p.setup p.request; history = []; opened = None; first_stale = None }

-- the world before the first act
abbrev pub initial_world : Addr → List ℕ → List Planned → World
initial_world addr numbers plan = record { node = initial_node addr numbers; sides = map fresh_side plan; sent = []; mark = 0 }

pub record IsPlanned (p : Planned) : Type 0 where
  pub addr : IsAddr p.setup.addr
  pub port : p.setup.port.0 < 65536
  pub server : IsAddr p.setup.server
  pub server_port : p.setup.server_port.0 < 65536
  pub offered : p.setup.mss < 65536
  pub iss : IsU32 p.setup.iss.0
  pub short : length p.request ≤ 4096
  pub all_bytes : All IsByte p.request
  pub seg : (1 ≤ p.setup.seg) × (p.setup.seg ≤ 1460)

abbrev pub sockets_in : Planned → Sockets
sockets_in p = record { peer = p.setup.addr; peer_port = p.setup.port; own_port = p.setup.server_port }

-- Clients that a world can have: no two have the same sockets.
pub record IsPlan (plan : List Planned) : Type 0 where
  pub each : (k : ℕ) (p : Planned) → slice_get plan k ≡ Some p → IsPlanned p
  pub apart : (j k : ℕ) (p q : Planned) → slice_get plan j ≡ Some p → slice_get plan k ≡ Some q → sockets_in p ≡ sockets_in q → j ≡ k

-- A possible start: the address of the node, its counters, and the plan of its clients.
pub record Start : Type 0 where
  pub addr : Addr
  pub is_addr : IsAddr addr
  pub numbers : List ℕ
  pub in_range : All IsU32 numbers
  pub plan : List Planned
  pub is_plan : IsPlan plan

abbrev pub started : Start → World
started start = initial_world start.addr start.numbers start.plan
