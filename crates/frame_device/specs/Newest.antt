-- The newest incarnation of a connection.
use Rattle.std.specs.Prelude.{◌≡◌, ℕ, List, ◌++◌, true}
use Rattle.tcp_machine.specs.Prelude.{Connection, is_live}
use Rattle.uip_node.specs.Prelude.{AbstractNode, connection_in}
use Rattle.node_laws.specs.Prelude.{Exchange, IncarnationConforms, OutputModel, TraceEntry, exchanges_with, is_incarnation}

-- These exchanges, the newest first, have a newest incarnation, and those before it.
pub record HasNewest (exchanges : List Exchange) : Type 0 where
  pub incarnation : List Exchange
  pub before : List Exchange
  pub split : exchanges ≡ incarnation ++ before
  pub is : is_incarnation incarnation ≡ true

-- The newest incarnation among these exchanges is that of the connection: it conforms, and its newest account has the captures of the
-- connection.
pub record NewestConforms (model : OutputModel) (c : Connection) (exchanges : List Exchange) : Type 0 where
  pub newest : HasNewest exchanges
  pub conforms : IncarnationConforms model newest.incarnation
  pub snapshots : (conforms.account 0).snapshots ≡ c.part.snapshots

-- So is that of the connection in each slot of a node with this trace, if it is not CLOSED.
abbrev pub NewestInEachSlot : (ℕ → OutputModel) → AbstractNode → List TraceEntry → Type 0
NewestInEachSlot model n trace =
    (slot : ℕ) → is_live (connection_in slot n).state ≡ true
    → NewestConforms (model (connection_in slot n).sockets.own_port.0) (connection_in slot n)
    (exchanges_with (connection_in slot n).sockets trace)
