-- What is recorded before a call of the node, and what is found after it.
use Rattle.std.specs.Prelude.{◌≡◌, ℕ, Bool, false, List, [], ◌∷◌, map, Option, Some, None, if◌then◌else◌}
use Rattle.uip_wire.specs.Prelude.{wrap}
use Rattle.tcp_table.specs.Prelude.{is_at}
use Rattle.tcp_table.specs.declared.conn.Conn.{Conn}
use Rattle.tcp_machine.specs.Prelude.{Connection, Sockets, is_live}
use Rattle.uip_node.specs.Prelude.{raises, times, HistoryEntry, Reply, Echo, TcpReply, AbstractNode}
use Rattle.uip_node.specs.declared.counter.TheConstants.{TCP_AGAIN}
use Rattle.link_replay.specs.declared.world.before_call.Before.{Before}
use Rattle.link_replay.specs.declared.world.socket_pair.SocketPair.{SocketPair}

abbrev pub sockets_at : SocketPair → Sockets
sockets_at pair = record { peer = pair.peer; peer_port = pair.peer_port; own_port = pair.own_port }

abbrev pub pair_at : Sockets → SocketPair
pair_at s = record { peer = s.peer; peer_port = s.peer_port; own_port = s.own_port }

-- the sockets of a connection that is not CLOSED
abbrev pub owner : Connection → Option SocketPair
owner c = if is_live c.state then Some (pair_at c.sockets) else None

-- the sockets of a connection of the code that is not CLOSED
abbrev pub owner_in : {A : Type 0} → Conn A → Option SocketPair
owner_in c = if is_live c.state then Some (record { peer = c.peer; peer_port = c.peer_port; own_port = c.own_port }) else None

-- the number of retransmissions, as the counter of the node shows it
abbrev pub resent : List HistoryEntry → ℕ
resent history = wrap (times (raises TCP_AGAIN) history)

-- the owners of all slots, and the number of retransmissions
pub record IsBefore (before : Before) (n : AbstractNode) : Type 0 where
  pub pairs : before.pairs.items ≡ map owner n.connections
  pub resent : before.resent ≡ resent n.history

-- an owner that its slot no longer serves
abbrev pub lost_at : {A : Type 0} → Option SocketPair → Conn A → Option SocketPair
lost_at None c = None
lost_at (Some pair) c = if is_at pair.peer pair.peer_port pair.own_port c then None else Some pair

abbrev pub or_pair : Option SocketPair → Option SocketPair → Option SocketPair
or_pair (Some pair) other = Some pair
or_pair None other = other

-- the first such owner, in the order of the slots
abbrev pub lost : {A : Type 0} → List (Option SocketPair) → List (Conn A) → Option SocketPair
lost [] cs = None
lost (pair ∷ pairs) [] = None
lost (pair ∷ pairs) (c ∷ cs) = or_pair (lost_at pair c) (lost pairs cs)

-- the sockets of the connection that became CLOSED at a step
abbrev pub gone_pair : Option Connection → Option SocketPair
gone_pair None = None
gone_pair (Some gone) = Some (pair_at gone.sockets)

-- The step is a retransmission.
abbrev pub is_sent_again : Option Reply → Bool
is_sent_again None = false
is_sent_again (Some (Echo request)) = false
is_sent_again (Some (TcpReply sockets id again segment)) = again
