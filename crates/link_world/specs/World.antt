-- The world of a replay: the node, the clients, and the list of all datagrams ever sent.
use Rattle.std.specs.Option.{option_map_or, option_or}
use Rattle.std.specs.Prelude.{ℕ, zero, suc, ◌+◌, ◌==◌, Bool, true, false, List, [], ◌∷◌, ◌++◌, length}
use Rattle.std.specs.Prelude.{map, Option, Some, None, if◌then◌else◌, is_none, slice_get, slice_set}
use Rattle.tcp_segment.specs.Prelude.{PlainSegment}
use Rattle.app_events.specs.Prelude.{Snapshot, AppSpec}
use Rattle.tcp_machine.specs.Prelude.{Sockets, Connection, same_sockets}
use Rattle.uip_node.specs.Prelude.{Event, Reply, EchoAsked, Arrived, Echo, TcpReply, ticks_of, AbstractNode, NodeStep, step}
use Rattle.link_client.specs.Prelude.{AbstractClient, ClientStep, client_takes}
use Rattle.link_client.specs.declared.client_state.ClientState.{ClientState}
use Rattle.link_client.specs.declared.client_state.ClientState.TheVariants.{Opening, Opened}
use Rattle.link_world.specs.declared.who.Who.{Who}
use Rattle.link_world.specs.declared.who.Who.TheVariants.{FromClient, FromNode, Pinger}

-- What the world keeps of a connection that became CLOSED.
pub record PastConnection : Type 0 where
  pub iss : ℕ  -- its ISS
  pub snapshots : List Snapshot

abbrev pub past_connection_of : Connection → PastConnection
past_connection_of c = record { iss = c.iss; snapshots = c.part.snapshots }

-- A client, and what the world keeps of it.
pub record Side : Type 0 where
  pub client : AbstractClient
  pub history : List PastConnection  -- the connections with its sockets that became CLOSED, the oldest first
  pub opened : Option ℕ  -- the epoch in which it became Opened
  pub first_stale : Option ℕ  -- the number of the first stale datagram that was delivered from or to it

-- The epoch of a client: how often the server's connection with its sockets has become CLOSED.
abbrev pub epoch : Side → ℕ
epoch side = length side.history

-- No stale datagram was delivered from it or to it.
abbrev pub is_clean : Side → Bool
is_clean side = is_none side.first_stale

-- the sockets of the server's connection with a client
abbrev pub client_sockets : Side → Sockets
client_sockets side = record { peer = side.client.setup.addr; peer_port = side.client.setup.port; own_port = side.client.setup.server_port }

-- The content of a datagram, without its addresses.
pub data Content : Type 0 where
  OfSegment : (id : ℕ) (segment : PlainSegment) → Content
  OfPing : (datagram : List ℕ) → Content  -- an echo request
  OfEcho : (request : List ℕ) → Content  -- the reply to an echo request

-- A datagram that was sent.
pub record Sent : Type 0 where
  pub who : Who
  pub tick : ℕ  -- the tick count at sending
  pub epoch : ℕ  -- the epoch of the client at the end of the step that sent it, 0 if it concerns no client
  pub again : Bool  -- the node marked it as a retransmission
  pub content : Content

pub record World : Type 0 where
  pub node : AbstractNode
  pub sides : List Side
  pub sent : List Sent  -- numbered from 1
  pub mark : ℕ  -- the highest number that a round has passed

-- the element with a number, counted from 1
abbrev pub numbered : {X : Type 0} → List X → ℕ → Option X
numbered xs zero = None
numbered xs (suc n) = slice_get xs n

abbrev pub set_numbered : {X : Type 0} → List X → ℕ → X → List X
set_numbered xs zero x = xs
set_numbered xs (suc n) x = slice_set xs n x

-- If the connection of the client became CLOSED, its epoch rises by one.
abbrev pub retires_in : Connection → Side → Side
retires_in gone side =
    if same_sockets gone.sockets (client_sockets side) then record side { history = side.history ++ past_connection_of gone ∷ [] } else side

abbrev pub retires : Option Connection → List Side → List Side
retires gone sides = option_map_or (λ c. map (retires_in c) sides) gone sides

-- the number of the client with the sockets of a datagram of the node; 0 if there is none
abbrev pub addressed : ℕ → Sockets → List Side → ℕ
addressed number sockets [] = 0
addressed number sockets (side ∷ sides) = if same_sockets sockets (client_sockets side) then number else addressed
    (number + 1) sockets sides

abbrev pub epoch_of : Who → List Side → ℕ
epoch_of (FromClient number) sides = option_map_or epoch (numbered sides number) 0
epoch_of (FromNode number) sides = option_map_or epoch (numbered sides number) 0
epoch_of Pinger sides = 0

-- one more datagram
abbrev pub posts : World → Who → Bool → Content → World
posts w who again content = record w {
  sent =
      w.sent ++ record { who = who; tick = ticks_of w.node.history; epoch = epoch_of who w.sides; again = again; content = content } ∷ [];
}

abbrev pub posts_reply : World → Option Reply → World
posts_reply w None = w
posts_reply w (Some (Echo request)) = posts w (FromNode 0) false (OfEcho request)
posts_reply w (Some (TcpReply sockets id again s)) = posts w (FromNode (addressed 1 sockets w.sides)) again (OfSegment id s)

-- The node took a step. First the CLOSED connection becomes a past connection, then the reply is posted with the new epoch.
abbrev pub node_stepped : World → NodeStep → World
node_stepped w r = posts_reply (record w { node = r.node; sides = retires r.gone w.sides }) r.sent

abbrev pub node_handles : AppSpec → (ℕ → Bool) → World → Event → World
node_handles m served w event = node_stepped w (step m served w.node event)

abbrev pub becomes_opened : ClientState → ClientState → Bool
becomes_opened Opening Opened = true
becomes_opened _ _ = false

-- the side after a step of its client
abbrev pub with_client : Side → AbstractClient → Side
with_client side client = record side {
  client = client;
  opened = (if becomes_opened side.client.state client.state then Some (epoch side) else side.opened);
}

abbrev pub with_side : World → ℕ → Side → World
with_side w number side = record w { sides = set_numbered w.sides number side }

abbrev pub posts_of_client : World → ℕ → Option PlainSegment → World
posts_of_client w number sent = option_map_or (λ s. posts w (FromClient number) false (OfSegment 0 s)) sent w

-- client `number`, which was `side`, took a step
abbrev pub client_stepped : World → ℕ → Side → ClientStep → World
client_stepped w number side took = posts_of_client (with_side w number (with_client side took.client)) number took.sent

-- A datagram is stale if the epoch of its client is another one when it is delivered. The first such is recorded.
abbrev pub marked : Side → ℕ → Sent → Side
marked side number e = record side {
  first_stale = option_or side.first_stale (if e.epoch == epoch side then None else Some number);
}

-- the world after an action on the client with a number, if there is one
abbrev pub at_side : World → ℕ → (Side → World) → World
at_side w number act = option_map_or act (numbered w.sides number) w

-- Datagram k is delivered. A datagram of a client and a ping arrive at the node, a TCP datagram of the node at its client, an echo reply
-- nowhere.
abbrev pub delivers : AppSpec → (ℕ → Bool) → World → ℕ → Sent → Who → Content → World
delivers m served w k e (FromClient number) (OfSegment id s) =
    at_side w number (λ side. node_handles m served (with_side w number (marked side k e)) (Arrived (client_sockets side) s))
delivers m served w k e (FromNode number) (OfSegment id s) =
    at_side w number (λ side. client_stepped w number (marked side k e) (client_takes side.client s))
delivers m served w k e Pinger (OfPing datagram) = node_handles m served w (EchoAsked datagram)
delivers m served w k e _ _ = w
