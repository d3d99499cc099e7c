-- Lines of frames worked by hand, at a host 10.0.0.1 with the hardware address 02:00:00:00:00:01: all that is written for them.
use Rattle.std.specs.Prelude.{ℕ, Bool, List, [], ◌∷◌}
use Rattle.app_events.specs.Prelude.{AppSpec}
use Rattle.uip_edge.specs.declared.item.Item.{Item}
use Rattle.uip_wire.specs.declared.addr.Addr.{Addr}
use Rattle.uip_node.specs.Prelude.{initial_node}
use Rattle.serve_loop.specs.Prelude.{output, station_events_of_line}
use Rattle.ethernet_arp.specs.EtherWay.{ether_medium}
use Rattle.ethernet_arp.specs.Frames.{Host}

abbrev pub own : Addr
own = record { 0 = 10 ∷ 0 ∷ 0 ∷ 1 ∷ [] }

abbrev pub host : Host
host = record { addr = own.0; mac = 2 ∷ 0 ∷ 0 ∷ 0 ∷ 0 ∷ 1 ∷ [] }

-- What is written for the items, whatever the application is.
abbrev pub written_for : AppSpec → (ℕ → Bool) → List Item → List ℕ
written_for m served items =
    output m served (ether_medium host) own (station_events_of_line (ether_medium host) own 0 items)
    (record { acts = []; node = initial_node own [] })

-- A request of 10.0.0.2 at 02:00:00:00:00:02 for the address of the host, and its reply.
abbrev pub request : List ℕ
request =
    0 ∷ 42 ∷ 255 ∷ 255 ∷ 255 ∷ 255 ∷ 255 ∷ 255 ∷ 2 ∷ 0 ∷ 0 ∷ 0 ∷ 0 ∷ 2 ∷ 8 ∷ 6 ∷ 0 ∷ 1 ∷ 8 ∷ 0 ∷ 6 ∷ 4 ∷ 0 ∷
    1 ∷ 2 ∷ 0 ∷ 0 ∷ 0 ∷ 0 ∷ 2 ∷ 10 ∷ 0 ∷ 0 ∷ 2 ∷ 0 ∷ 0 ∷ 0 ∷ 0 ∷ 0 ∷ 0 ∷ 10 ∷ 0 ∷ 0 ∷ 1 ∷ []

abbrev pub reply : List ℕ
reply =
    0 ∷ 42 ∷ 2 ∷ 0 ∷ 0 ∷ 0 ∷ 0 ∷ 2 ∷ 2 ∷ 0 ∷ 0 ∷ 0 ∷ 0 ∷ 1 ∷ 8 ∷ 6 ∷ 0 ∷ 1 ∷ 8 ∷ 0 ∷ 6 ∷ 4 ∷ 0 ∷ 2 ∷ 2 ∷ 0 ∷
    0 ∷ 0 ∷ 0 ∷ 1 ∷ 10 ∷ 0 ∷ 0 ∷ 1 ∷ 2 ∷ 0 ∷ 0 ∷ 0 ∷ 0 ∷ 2 ∷ 10 ∷ 0 ∷ 0 ∷ 2 ∷ []

-- An echo request of the same, and the echo reply.
abbrev pub ping : List ℕ
ping =
    0 ∷ 42 ∷ 2 ∷ 0 ∷ 0 ∷ 0 ∷ 0 ∷ 1 ∷ 2 ∷ 0 ∷ 0 ∷ 0 ∷ 0 ∷ 2 ∷ 8 ∷ 0 ∷ 69 ∷ 0 ∷ 0 ∷ 28 ∷ 0 ∷ 1 ∷ 0 ∷ 0 ∷ 64 ∷
    1 ∷ 102 ∷ 222 ∷ 10 ∷ 0 ∷ 0 ∷ 2 ∷ 10 ∷ 0 ∷ 0 ∷ 1 ∷ 8 ∷ 0 ∷ 247 ∷ 253 ∷ 0 ∷ 1 ∷ 0 ∷ 1 ∷ []

abbrev pub pong : List ℕ
pong =
    0 ∷ 42 ∷ 2 ∷ 0 ∷ 0 ∷ 0 ∷ 0 ∷ 2 ∷ 2 ∷ 0 ∷ 0 ∷ 0 ∷ 0 ∷ 1 ∷ 8 ∷ 0 ∷ 69 ∷ 0 ∷ 0 ∷ 28 ∷ 0 ∷ 1 ∷ 0 ∷ 0 ∷ 64 ∷
    1 ∷ 102 ∷ 222 ∷ 10 ∷ 0 ∷ 0 ∷ 1 ∷ 10 ∷ 0 ∷ 0 ∷ 2 ∷ 0 ∷ 0 ∷ 255 ∷ 253 ∷ 0 ∷ 1 ∷ 0 ∷ 1 ∷ []

-- The host's request for the address of 10.0.0.2.
abbrev pub question : List ℕ
question =
    0 ∷ 42 ∷ 255 ∷ 255 ∷ 255 ∷ 255 ∷ 255 ∷ 255 ∷ 2 ∷ 0 ∷ 0 ∷ 0 ∷ 0 ∷ 1 ∷ 8 ∷ 6 ∷ 0 ∷ 1 ∷ 8 ∷ 0 ∷ 6 ∷ 4 ∷ 0 ∷
    1 ∷ 2 ∷ 0 ∷ 0 ∷ 0 ∷ 0 ∷ 1 ∷ 10 ∷ 0 ∷ 0 ∷ 1 ∷ 0 ∷ 0 ∷ 0 ∷ 0 ∷ 0 ∷ 0 ∷ 10 ∷ 0 ∷ 0 ∷ 2 ∷ []
