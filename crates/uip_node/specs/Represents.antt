-- When a node of the code represents an abstract node.
use Rattle.std.specs.Prelude.{ℕ, ◌≡◌, Bool, List, length, Option}
use Rattle.app_events.specs.Prelude.{AppSpec}
use Rattle.app_events.specs.declared.app.App.{Ghosts}
use Rattle.uip_wire.specs.declared.sizes.TheConstants.{LARGEST_DATAGRAM}
use Rattle.packet_buffer.specs.Prelude.{Buffer}
use Rattle.tcp_table.specs.declared.conn.Conn.{Conn}
use Rattle.uip_node.specs.Counted.{CountsRepresent}
use Rattle.uip_node.specs.Counters.{initial_number}
use Rattle.uip_node.specs.Events.{HistoryEntry}
use Rattle.uip_node.specs.Node.{AbstractNode, NodeStep}
use Rattle.uip_node.specs.Slots.{AllWellFormed, SlotsRepresent}
use Rattle.uip_node.specs.Spoken.{IsSent}
use Rattle.uip_node.specs.State.{Node}

-- The node represents the abstract node, with the counts of this history.
pub record Represents {A S : Type 0} (g : Ghosts A S) (node : Node A S) (n : AbstractNode) (history : List HistoryEntry) : Type 0 where
  pub addr : node.addr ≡ n.addr
  pub slots : SlotsRepresent g (g.config node.shared) node.table.conns n.connections
  pub iss : node.table.iss ≡ initial_number history
  pub numbers_represented : g.numbers node.shared ≡ n.numbers
  pub counts : CountsRepresent node.counts history

-- The invariant of a node: its packet has the size of the largest datagram, and every connection is sound.
pub record IsWellFormed {A S : Type 0} (g : Ghosts A S) (packet : Buffer) (conns : List (Conn A)) (shared : S) : Type 0 where
  pub size : length packet.area ≡ LARGEST_DATAGRAM
  pub kept : AllWellFormed g (g.config shared) conns

-- The result of a step: the node and what was sent.
pub record Steps {A S : Type 0} (g : Ghosts A S) (node : Node A S) (result : Option ℕ) (s : NodeStep) : Type 0 where
  pub represented : Represents g node s.node s.node.history
  pub sent : IsSent node.addr s.sent result node.packet

-- The call refines this step: the node represents the result of the definition, and sends the same datagram.
pub record Refines {A S : Type 0} (g : Ghosts A S) (f : AppSpec → (ℕ → Bool) → AbstractNode → NodeStep) (old new : Node A S)
    (result : Option ℕ) : Type 0 where
  pub same : g.config new.shared ≡ g.config old.shared
  pub step : (n : AbstractNode) → Represents g old n n.history → Steps g new result (f (g.app_spec (g.config old.shared)) g.served n)
