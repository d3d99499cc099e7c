-- The receiver of a reply of the node.
use Rattle.std.specs.Prelude.{◌≡◌, ℕ, Option, Some, None, ⊤}
use Rattle.uip_node.specs.Prelude.{Reply, Echo, TcpReply}
use Rattle.link_replay.specs.declared.world.socket_pair.SocketPair.{SocketPair}
use Rattle.link_world.specs.Prelude.{World, Side, Sent, marked, numbered, client_sockets, with_side}
use Rattle.link_world.specs.declared.who.Who.{Who}
use Rattle.link_world.specs.declared.who.Who.TheVariants.{FromClient, FromNode, Pinger}
use Rattle.link_replay.specs.Noting.{pair_at}

-- A segment is for its sockets; an echo reply is for no client.
abbrev pub IsTo : Option SocketPair → Reply → Type 0
IsTo to (Echo request) = to ≡ None
IsTo to (TcpReply sockets id again segment) = to ≡ Some (pair_at sockets)

abbrev pub AreTo : Option SocketPair → Option Reply → Type 0
AreTo to None = ⊤
AreTo to (Some reply) = IsTo to reply

-- the client that a datagram concerns, by its sender; 0 if it concerns none
abbrev pub client_reported : Who → ℕ
client_reported (FromClient number) = number
client_reported (FromNode number) = number
client_reported Pinger = 0

-- the sockets of the server's connection with a client
abbrev pub pair_at_side : Option Side → Option SocketPair
pair_at_side None = None
pair_at_side (Some side) = Some (pair_at (client_sockets side))

-- The node's reply to bytes of this sender is for that sender.
abbrev pub AnswersTo : World → Who → Option Reply → Type 0
AnswersTo w (FromClient number) sent = AreTo (pair_at_side (numbered w.sides number)) sent
AnswersTo w Pinger sent = AreTo None sent
AnswersTo w (FromNode number) sent = ⊤

-- A client records a datagram with this number, which is delivered from it or to it.
abbrev pub sees : World → ℕ → ℕ → Sent → Option Side → World
sees w client number e None = w
sees w client number e (Some side) = with_side w client (marked side number e)
