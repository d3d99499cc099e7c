-- The bytes of the datagrams of a world, and the change of one byte on the way.
use Rattle.std.specs.Option.{option_map_or}
use Rattle.std.specs.Prelude.{ℕ, List, [], ◌∷◌, ◌++◌, Option, Some, None, slice_index, slice_set, bit_xor, if◌then◌else◌}
use Rattle.uip_wire.specs.declared.addr.Addr.{Addr}
use Rattle.uip_ipv4.specs.Prelude.{head_bytes}
use Rattle.uip_ipv4.specs.declared.proto.Proto.TheVariants.{Icmp}
use Rattle.icmp_echo.specs.Prelude.{echo_reply}
use Rattle.tcp_segment.specs.Prelude.{PlainSegment, datagram_bytes}
use Rattle.tcp_machine.specs.Prelude.{Sockets, same_sockets}
use Rattle.uip_node.specs.Prelude.{Event, Arrived, event_of, datagram_to}
use Rattle.link_client.specs.declared.setup.Setup.{Setup}
use Rattle.link_world.specs.World.{World, Side, Sent, Content, client_sockets, numbered}
use Rattle.link_world.specs.World.Content.{OfSegment, OfPing, OfEcho}
use Rattle.link_world.specs.declared.who.Who.{Who}
use Rattle.link_world.specs.declared.who.Who.TheVariants.{FromClient, FromNode, Pinger}

-- an echo request without payload, with identifier and number 1 (RFC 792)
unfoldable pub ping_from : Addr → Addr → List ℕ
ping_from source target = head_bytes 28 1 Icmp source.0 target.0 ++ 8 ∷ 0 ∷ 247 ∷ 253 ∷ 0 ∷ 1 ∷ 0 ∷ 1 ∷ []

-- the server as the connection of a client knows it
abbrev pub server_of : Setup → Sockets
server_of setup = record { peer = setup.server; peer_port = setup.server_port; own_port = setup.port }

-- a datagram of a client, and one of the node to a client
abbrev pub client_bytes : ℕ → PlainSegment → Side → List ℕ
client_bytes id s side = datagram_bytes (datagram_to side.client.setup.addr (server_of side.client.setup) id s)

abbrev pub node_bytes : Addr → ℕ → PlainSegment → Side → List ℕ
node_bytes addr id s side = datagram_bytes (datagram_to addr (client_sockets side) id s)

abbrev pub bytes_by : World → Who → Content → List ℕ
bytes_by w (FromClient number) (OfSegment id s) = option_map_or (client_bytes id s) (numbered w.sides number) []
bytes_by w (FromNode number) (OfSegment id s) = option_map_or (node_bytes w.node.addr id s) (numbered w.sides number) []
bytes_by w Pinger (OfSegment id s) = []
bytes_by w who (OfPing datagram) = datagram
bytes_by w who (OfEcho request) = echo_reply request

-- the bytes of a datagram that was sent
abbrev pub sent_bytes : World → Sent → List ℕ
sent_bytes w e = bytes_by w e.who e.content

-- the byte at an offset, changed by exclusive or with the mask
abbrev pub changed : List ℕ → ℕ → ℕ → List ℕ
changed bytes at mask = slice_set bytes at (bit_xor (slice_index bytes at) mask)

-- What a client receives by an event at its address: a segment of its server, or nothing.
abbrev pub received_by : Setup → Event → Option PlainSegment
received_by setup (Arrived sockets s) = if same_sockets sockets (server_of setup) then Some s else None
received_by setup _ = None

abbrev pub receives_datagram : Setup → List ℕ → Option PlainSegment
receives_datagram setup bytes = received_by setup (event_of setup.addr bytes)
