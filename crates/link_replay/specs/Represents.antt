-- When a world of the code represents a world over plain data.
use Rattle.std.specs.Prelude.{◌≡◌, ℕ, ◌≤◌, false, List, length, Some, slice_get}
use Rattle.uip_wire.specs.declared.addr.Addr.{Addr}
use Rattle.uip_wire.specs.declared.sizes.TheConstants.{LARGEST_DATAGRAM}
use Rattle.app_events.specs.declared.app.App.{Ghosts}
use Rattle.uip_node.specs.Prelude.{Represents}
use Rattle.link_client.specs.Prelude.{abstract_client, FitsRequest}
use Rattle.link_world.specs.Prelude.{World, Side, Sent, epoch, sent_bytes}
use Rattle.link_replay.specs.Matched.{Matched}
use Rattle.link_replay.specs.Plain.{CodeSent, CodeSide}
use Rattle.link_replay.specs.State.{CodeWorld, Link}

-- a client of the code and one over plain data
pub record SideRepresents (side : CodeSide) (s : Side) : Type 0 where
  pub client : abstract_client side.client side.request side.received ≡ s.client
  pub epoch : side.epoch ≡ epoch s
  pub first_stale : side.first_stale ≡ s.first_stale

-- a datagram of the code and one over plain data, which has these bytes in that world
pub record SentRepresents (w : World) (sent : CodeSent) (e : Sent) : Type 0 where
  pub who : sent.who ≡ e.who
  pub tick : sent.tick ≡ e.tick
  pub epoch : sent.epoch ≡ e.epoch
  pub again : sent.again ≡ e.again
  pub bytes : sent.bytes ≡ sent_bytes w e

-- clients and datagrams, and those of a world
pub record LinkRepresents (link : Link) (w : World) : Type 0 where
  pub sides : Matched SideRepresents link.sides w.sides
  pub sent : Matched (SentRepresents w) link.sent w.sent

-- The invariant of clients and datagrams: all clients have one server, each datagram has a number, and none is longer than the largest.
pub record IsLink (addr : Addr) (link : Link) : Type 0 where
  pub few : length link.sides ≤ 64
  pub clients : (i : ℕ) (side : CodeSide) → slice_get link.sides i ≡ Some side → FitsRequest side.client side.request
  pub servers : (i : ℕ) (side : CodeSide) → slice_get link.sides i ≡ Some side → side.client.setup.server ≡ addr
  pub many : length link.sent ≤ 65535
  pub sizes : (i : ℕ) (sent : CodeSent) → slice_get link.sent i ≡ Some sent → length sent.bytes ≤ LARGEST_DATAGRAM

-- The invariant of a world: its clients and datagrams are sound at one address, and a client's datagram has room.
pub record IsWellFormedWorld (both : Link) (area : List ℕ) : Type 0 where
  pub link : (addr : Addr) × IsLink addr both
  pub room : length area ≡ LARGEST_DATAGRAM

pub record WorldRepresents {A S : Type 0} (g : Ghosts A S) (world : CodeWorld A S) (w : World) : Type 0 where
  pub node : Represents g world.node w.node w.node.history
  pub link : LinkRepresents world.link w
  pub home : IsLink w.node.addr world.link
  pub mark : world.mark ≡ w.mark
  pub fresh : world.spent ≡ false

-- The configuration of its application, and the mark, are those of an older world.
pub record Follows {A S : Type 0} (g : Ghosts A S) (old new : CodeWorld A S) : Type 0 where
  pub same : g.config new.node.shared ≡ g.config old.node.shared
  pub mark : new.mark ≡ old.mark
