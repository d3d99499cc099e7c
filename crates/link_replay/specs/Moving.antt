-- What the calls of a replay do to the worlds that they represent.
use Rattle.std.specs.Prelude.{◌≡◌, ℕ, Bool, List, None, Option, Some}
use Rattle.uip_wire.specs.declared.addr.Addr.{Addr}
use Rattle.app_events.specs.Prelude.{AppSpec}
use Rattle.app_events.specs.declared.app.App.{Ghosts}
use Rattle.tcp_machine.specs.Prelude.{Connection}
use Rattle.tcp_segment.specs.Prelude.{PlainSegment}
use Rattle.uip_node.specs.Prelude.{ticks_of, event_of, reply_bytes, Event, Reply, AbstractNode, NodeStep, step, IsSent, Represents, Node}
use Rattle.link_client.specs.Prelude.{Sends}
use Rattle.link_world.specs.Prelude.{does, fault_of, hands_over, bytes_by, sent_bytes, IsRead, IsSentBy, Content, Sent, Side}
use Rattle.link_world.specs.Prelude.{World, node_handles, node_stepped, numbered, posts, posts_of_client, posts_reply, retires}
use Rattle.link_world.specs.declared.act.Act.{Act}
use Rattle.link_world.specs.declared.who.Who.{Who}
use Rattle.link_replay.specs.Noting.{IsBefore, gone_pair, is_sent_again}
use Rattle.link_replay.specs.Reaching.{IsAt}
use Rattle.link_replay.specs.Represents.{IsLink, LinkRepresents, SentRepresents, WorldRepresents}
use Rattle.link_replay.specs.Reporting.{AnswersTo, AreTo, IsTo, sees}
use Rattle.link_replay.specs.declared.world.before_call.Before.{Before}
use Rattle.link_replay.specs.Plain.{CodeSent, CodeSide}
use Rattle.link_replay.specs.declared.world.socket_pair.SocketPair.{SocketPair}
use Rattle.link_replay.specs.State.{CodeWorld, Link, link_of}

-- ---- a world

-- The property holds for every world that the code's world represents and that acts reach.
abbrev pub FromHere : {A S : Type 0} (g : Ghosts A S) → CodeWorld A S → (AppSpec → (ℕ → Bool) → World → Type 0) → Type 0
FromHere g old P =
    (w : World) → IsAt (g.app_spec (g.config old.node.shared)) g.served w → WorldRepresents g old w
    → P (g.app_spec (g.config old.node.shared)) g.served w

-- The property holds for every world that the code's world represents, and that acts of an application reach.
abbrev pub OfWorld : {A S : Type 0} (g : Ghosts A S) → CodeWorld A S → (World → Type 0) → Type 0
OfWorld g world P = (m : AppSpec) (served : ℕ → Bool) (w : World) → WorldRepresents g world w → IsAt m served w → P w

-- An act without a fault was done.
abbrev pub DoesAct : {A S : Type 0} (g : Ghosts A S) → Act → CodeWorld A S → CodeWorld A S → Type 0
DoesAct g act old new =
    (w : World) → IsAt (g.app_spec (g.config old.node.shared)) g.served w → fault_of w act ≡ None → WorldRepresents g old w
    → WorldRepresents g new (does (g.app_spec (g.config old.node.shared)) g.served w act)

-- The node was passed bytes. Its reply, if any, is for these sockets.
abbrev pub PassesToNode : {A S : Type 0} (g : Ghosts A S) → List ℕ → Option SocketPair → CodeWorld A S → CodeWorld A S → Type 0
PassesToNode g bytes to old new =
    (w : World) → WorldRepresents g old w
    → AreTo to (step (g.app_spec (g.config old.node.shared)) g.served w.node (event_of w.node.addr bytes)).sent
    → WorldRepresents g new (node_handles (g.app_spec (g.config old.node.shared)) g.served w (event_of w.node.addr bytes))

-- The bytes of a datagram of this sender were delivered. A reply of the node to them is for that sender.
abbrev pub HandsOver : {A S : Type 0} (g : Ghosts A S) → Who → List ℕ → CodeWorld A S → CodeWorld A S → Type 0
HandsOver g who bytes old new =
    (w : World) → WorldRepresents g old w
    → AnswersTo w who (step (g.app_spec (g.config old.node.shared)) g.served w.node (event_of w.node.addr bytes)).sent
    → WorldRepresents g new (hands_over (g.app_spec (g.config old.node.shared)) g.served w bytes who)

-- ---- a call of the node

-- The property holds for each step that the node has taken since the record `before`.
abbrev pub SinceBefore : {A S : Type 0} (g : Ghosts A S) → Before → Node A S → (NodeStep → Type 0) → Type 0
SinceBefore g before node P =
    (m : AppSpec) (served : ℕ → Bool) (n : AbstractNode) (event : Event) → IsBefore before n
    → Represents g node (step m served n event).node (step m served n event).node.history → P (step m served n event)

-- Clients and datagrams record the step of a node that sent this.
abbrev pub ReportsStep : {A S : Type 0} (g : Ghosts A S) → Before → Node A S → Option SocketPair → Option ℕ → Link → Link → Type 0
ReportsStep g before node to sent old new =
    (m : AppSpec) (served : ℕ → Bool) (w : World) (event : Event) → IsBefore before w.node
    → AreTo to (step m served w.node event).sent
    → Represents g node (step m served w.node event).node (step m served w.node event).node.history
    → IsSent node.addr (step m served w.node event).sent sent node.packet → LinkRepresents old w
    → LinkRepresents new (node_stepped w (step m served w.node event))

-- ---- clients and datagrams

-- The invariant of clients and datagrams is preserved, for any address.
abbrev pub KeepsLink : Link → Link → Type 0
KeepsLink old new = (addr : Addr) → IsLink addr old → IsLink addr new

-- At this tick, clients and datagrams that represent a world represent the changed one afterwards.
abbrev pub ChangesAt : ℕ → (World → World) → Link → Link → Type 0
ChangesAt tick change old new = (w : World) → LinkRepresents old w → tick ≡ ticks_of w.node.history → LinkRepresents new (change w)

-- A client records the delivery of a datagram of this epoch, from it or to it.
abbrev pub RecordsDelivery : ℕ → ℕ → ℕ → List CodeSide → List CodeSide → Type 0
RecordsDelivery client number epoch old new =
    (w : World) (e : Sent) (sent : List CodeSent) → LinkRepresents (link_of old sent) w → epoch ≡ e.epoch
    → LinkRepresents (link_of new sent) (sees w client number e (numbered w.sides client))

-- A datagram with these bytes is posted.
abbrev pub PostsBytes : Who → ℕ → Bool → List ℕ → Link → Link → Type 0
PostsBytes who tick again bytes old new =
    (w : World) (content : Content) → LinkRepresents old w → tick ≡ ticks_of w.node.history → bytes ≡ bytes_by w who content
    → LinkRepresents new (posts w who again content)

-- The connection with these sockets was lost.
abbrev pub Buries : Option SocketPair → Link → Link → Type 0
Buries gone old new =
    (w : World) (node : AbstractNode) (lost : Option Connection) → gone ≡ gone_pair lost → node.addr ≡ w.node.addr → LinkRepresents old w
    → LinkRepresents new (record w { node = node; sides = retires lost w.sides })

-- A reply of the node is posted.
abbrev pub PostsReply : Option SocketPair → ℕ → Bool → List ℕ → Link → Link → Type 0
PostsReply to tick again datagram old new =
    (w : World) (reply : Reply) → IsTo to reply → tick ≡ ticks_of w.node.history → again ≡ is_sent_again (Some reply)
    → datagram ≡ reply_bytes w.node.addr reply → LinkRepresents old w → LinkRepresents new (posts_reply w (Some reply))

-- What a client sends, from the area, is posted.
abbrev pub PostsOfClient : ℕ → Option ℕ → ℕ → List ℕ → Link → Link → Type 0
PostsOfClient number sent tick area old new =
    (w : World) (side : Side) (s : Option PlainSegment) → LinkRepresents old w → numbered w.sides number ≡ Some side
    → Sends side.client.setup s sent area → tick ≡ ticks_of w.node.history → LinkRepresents new (posts_of_client w number s)

-- The property holds for every world with these clients and datagrams.
abbrev pub OfLink : Addr → Link → (World → Type 0) → Type 0
OfLink addr link P =
    (m : AppSpec) (served : ℕ → Bool) (w : World) → addr ≡ w.node.addr → LinkRepresents link w → IsLink w.node.addr link → IsAt m served w
    → P w

-- The property holds for every datagram that this one represents, in the worlds of these clients.
abbrev pub OfDatagram : Addr → List CodeSide → CodeSent → (Sent → Type 0) → Type 0
OfDatagram addr sides sent P =
    (w : World) (e : Sent) (all : List CodeSent) → addr ≡ w.node.addr → LinkRepresents (link_of sides all) w
    → IsLink w.node.addr (link_of sides all) → SentRepresents w sent e
    → IsRead w e.who e.content (sent_bytes w e) → IsSentBy w.sides e.who e.content → P e
