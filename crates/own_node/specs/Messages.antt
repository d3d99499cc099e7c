-- What the program reads of a connection, and what a message that it writes changes.
use Rattle.std.specs.Prelude.{ℕ, ◌%◌, ◌&&◌, ◌==◌, ◌≡◌, not, nat_le, Bool, List, [], false, if◌then◌else◌, length, true}
use Rattle.app_events.specs.declared.app.App.{Ghosts}
use Rattle.app_events.specs.declared.state.State.{State}
use Rattle.app_events.specs.declared.state.State.TheVariants.{Established}
use Rattle.tcp_machine.specs.Prelude.{Connection, closed, is_open}
use Rattle.uip_node.specs.Prelude.{AbstractNode, Node, Represents, connection_in}
use Rattle.app_pair.specs.PairSpec.{own_part}
use Rattle.own_app.specs.Prelude.{OwnRepresents, PlainMessage, has_last, is_overrun, is_own_port, len_left, pending as pending_of}
use Rattle.own_app.specs.Prelude.{write_message}
use Rattle.own_app.specs.contracts.app.OwnAppApp.TheImpl.{ghosts}
use Rattle.own_app.specs.declared.app.OwnApp.{OwnApp}
use Rattle.own_app.specs.declared.shared.OwnShared.{OwnShared}

abbrev pub is_open_state : State → Bool
is_open_state state = is_open state

abbrev pub is_established : State → Bool
is_established Established = true
is_established _ = false

abbrev pub OwnNode : Type 0
OwnNode = Node OwnApp OwnShared

-- P holds of every abstract node that the node represents, with any application.
abbrev pub OfNodeWith : {A S : Type 0} → Ghosts A S → Node A S → (AbstractNode → Type 0) → Type 0
OfNodeWith g node P = (n : AbstractNode) → Represents g node n n.history → P n

-- with `OwnApp` alone
abbrev pub OfNode : OwnNode → (AbstractNode → Type 0) → Type 0
OfNode node P = OfNodeWith ghosts node P

-- ---- of an abstract connection

-- what an open connection received and no message has answered, unless it is given up
abbrev pub pending_at : Connection → List ℕ
pending_at c = if is_open_state c.state && not (is_overrun c.part) then pending_of c.part else []

-- The connection is ESTABLISHED with nothing outstanding, and captures the next message.
abbrev pub is_ready_at : Connection → Bool
is_ready_at c =
    is_established c.state && c.len == 0 && not (is_overrun c.part) && not (has_last c.part.snapshots) && len_left c.part == 0

-- the port at which an open connection opened
abbrev pub port_at : Connection → ℕ
port_at c = if is_open_state c.state then c.sockets.own_port.0 else 0

abbrev pub can_write_at : ℕ → Connection → Bool
can_write_at taken c = is_ready_at c && nat_le taken (length (pending_of c.part))

-- the next message of the connection
abbrev pub next_message_at : ℕ → List ℕ → Bool → Connection → PlainMessage
next_message_at taken text last c = record {
  to = c.part.own;
  number = length c.part.snapshots % 4294967296;
  taken = taken;
  last = last;
  text = text;
}

-- the same in a slot of a node

abbrev pub pending_in : ℕ → AbstractNode → List ℕ
pending_in slot n = pending_at (connection_in slot n)

abbrev pub is_ready_in : ℕ → AbstractNode → Bool
is_ready_in slot n = is_ready_at (connection_in slot n)

abbrev pub port_in : ℕ → AbstractNode → ℕ
port_in slot n = port_at (connection_in slot n)

abbrev pub can_write_in : ℕ → ℕ → AbstractNode → Bool
can_write_in slot taken n = can_write_at taken (connection_in slot n)

abbrev pub next_message : ℕ → ℕ → List ℕ → Bool → AbstractNode → PlainMessage
next_message slot taken text last n = next_message_at taken text last (connection_in slot n)

-- ---- of a node with an application that holds `OwnApp`

-- a connection of `OwnApp` in a pair of which it is the second, as it sees it
abbrev pub own_connection : Connection → Connection
own_connection c = record c { part = own_part true c.part }

-- any connection of the pair, as it sees it: one that is open for the first application is CLOSED
abbrev pub seen_in_pair : Connection → Connection
seen_in_pair c = if is_open_state c.state && not (is_own_port c.part.port) then closed else own_connection c

-- The connection is seen with another part, and while it is open this value represents that.
pub record SeesOwn (own : OwnApp) (seen c : Connection) : Type 0 where
  pub same : seen ≡ record c { part = seen.part }
  pub part : is_open_state c.state ≡ true → OwnRepresents own seen.part

abbrev pub with_change : (List ℕ → List ℕ) → AbstractNode → AbstractNode
with_change change n = record n { numbers = change n.numbers }

-- This message is in the place of the newest, among the numbers of `OwnApp`. Nothing else changed.
abbrev pub ReplacesNewestWith : {A S : Type 0} → Ghosts A S → ((List ℕ → List ℕ) → List ℕ → List ℕ) → PlainMessage → Node A S → Node A S
    → Type 0
ReplacesNewestWith g among message old new =
    OfNodeWith g old (λ n. Represents g new (with_change (among (write_message message)) n) n.history)

-- The next message of the connection in this slot was written in the place of the newest. Nothing else changed.
pub record WritesMessageWith {A S : Type 0} (g : Ghosts A S) (seen : Connection → Connection)
    (among : (List ℕ → List ℕ) → List ℕ → List ℕ)
    (slot taken : ℕ) (text : List ℕ) (last : Bool) (old new : Node A S) : Type 0 where
  pub message : PlainMessage
  pub next : OfNodeWith g old (λ n. message ≡ next_message_at taken text last (seen (connection_in slot n)))
  pub changes : ReplacesNewestWith g among message old new
  pub kept : g.config new.shared ≡ g.config old.shared

-- with `OwnApp` alone
abbrev pub WritesMessage : ℕ → ℕ → List ℕ → Bool → OwnNode → OwnNode → Type 0
WritesMessage slot taken text last old new = WritesMessageWith ghosts (λ c. c) (λ change. change) slot taken text last old new

-- ---- the same by the value of a connection

abbrev pub pending_by : State → OwnApp → List ℕ
pending_by state app = if is_open_state state && not app.overrun then app.received.items else []

abbrev pub is_ready_by : State → ℕ → OwnApp → Bool
is_ready_by state len app =
    is_established state && len == 0 && not app.overrun && not app.ended && app.at == length app.sending.items

abbrev pub port_by : State → ℕ → ℕ
port_by state port = if is_open_state state then port else 0

abbrev pub can_write_by : State → ℕ → OwnApp → ℕ → Bool
can_write_by state len app taken = is_ready_by state len app && nat_le taken (length app.received.items)

abbrev pub message_by : ℕ → List ℕ → Bool → OwnApp → PlainMessage
message_by taken text last app = record { to = app.ticket; number = app.count; taken = taken; last = last; text = text }
