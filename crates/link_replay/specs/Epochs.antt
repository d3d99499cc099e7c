-- What of a client of the code is unchanged when its epoch rises.
use Rattle.std.specs.Prelude.{◌≡◌, ◌+◌, true, if◌then◌else◌}
use Rattle.tcp_machine.specs.Prelude.{Sockets, same_sockets}
use Rattle.link_client.specs.declared.setup.Setup.{Setup}
use Rattle.link_replay.specs.Noting.{sockets_at}
use Rattle.link_replay.specs.Plain.{CodeSide as Side}
use Rattle.link_replay.specs.declared.world.socket_pair.SocketPair.{SocketPair}

-- the sockets of the server's connection with a client
abbrev pub sockets_for : Setup → Sockets
sockets_for setup = record { peer = setup.addr; peer_port = setup.port; own_port = setup.server_port }

-- everything except the epoch
pub record OnlyEpoch (old new : Side) : Type 0 where
  pub client : new.client ≡ old.client
  pub request : new.request ≡ old.request
  pub received : new.received ≡ old.received
  pub first_stale : new.first_stale ≡ old.first_stale

-- If the connection of the client was lost, its epoch rises by one.
abbrev pub buried : SocketPair → Side → Side
buried gone side = if same_sockets (sockets_at gone) (sockets_for side.client.setup) then record side { epoch = side.epoch + 1 } else side

-- Its connection was lost, and its epoch is the last that can be counted.
pub record IsAtLast (gone : SocketPair) (side : Side) : Type 0 where
  pub same : same_sockets (sockets_at gone) (sockets_for side.client.setup) ≡ true
  pub epoch : side.epoch ≡ 4294967295
