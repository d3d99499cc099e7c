-- What the private calls of a node do: to the connection in a slot, and to the node.
use Rattle.std.specs.Prelude.{ℕ, ◌≡◌, ◌+◌, ◌<◌, List, length, take, Option, None, Some, slice_get, slice_set}
use Rattle.app_events.specs.Prelude.{AppSpec, text_left}
use Rattle.app_events.specs.declared.app.App.{Ghosts}
use Rattle.app_events.specs.declared.now.Now.{Now}
use Rattle.packet_buffer.specs.Prelude.{Buffer, datagram_in}
use Rattle.tcp_segment.specs.Prelude.{PlainSegment, datagram_bytes}
use Rattle.tcp_segment.specs.declared.segment.Segment.{Segment}
use Rattle.tcp_table.specs.declared.conn.Conn.{Conn}
use Rattle.tcp_machine.specs.Prelude.{Outcome, asked, prepared, Connection, Sockets, accept, accepted, segment_of, plain}
use Rattle.tcp_machine.specs.declared.step.Step.{Step}
use Rattle.tcp_segment.specs.declared.flags.TheConstants.{ACK, PSH}
use Rattle.uip_wire.specs.declared.addr.Addr.{Addr}
use Rattle.uip_wire.specs.declared.sizes.TheConstants.{OWN_MSS}
use Rattle.uip_node.specs.Counted.{CountsRepresent, seen}
use Rattle.uip_node.specs.Counters.{initial_number}
use Rattle.uip_node.specs.Edge.{datagram_to}
use Rattle.uip_node.specs.Events.{Event}
use Rattle.uip_node.specs.Events.Event.{Arrived}
use Rattle.uip_node.specs.Node.{AbstractNode, NodeStep, connection_in, happened, snapshot}
use Rattle.uip_node.specs.Slots.{IsNamed, MeetsAt, SlotsRepresent, snapshot_at}
use Rattle.uip_node.specs.Spoken.{IsSpoken, headed}
use Rattle.uip_node.specs.Represents.{Represents, Steps}
use Rattle.uip_node.specs.State.{Node}

-- ---- the connection in a slot

-- The connection in a slot takes this step, whatever the slots represent.
abbrev pub TakesIn : {A S : Type 0} (g : Ghosts A S) (k : g.Config) (slot : ℕ) (f : Connection → Outcome)
    (old new : List (Conn A)) (numbers : List ℕ) (result : Step) → Type 0
TakesIn g k slot f old new numbers result =
    (abstracts : List Connection) (a : Connection) → SlotsRepresent g k old abstracts → slice_get abstracts slot ≡ Some a
    → MeetsAt g k new numbers result abstracts slot (f a)

-- The connection in a slot is prepared with these values of the node, whatever the slots represent.
abbrev pub PreparesIn : {A S : Type 0} (g : Ghosts A S) (k : g.Config) (slot : ℕ) (now : Now)
    (old new : List (Conn A)) (numbers : List ℕ) → Type 0
PreparesIn g k slot now old new numbers =
    (abstracts : List Connection) (a : Connection) → SlotsRepresent g k old abstracts → slice_get abstracts slot ≡ Some a
    → SlotsRepresent g k new (slice_set abstracts slot (prepared (g.app_spec k) now a numbers))

-- Preparation changes nothing of the connection in a slot, whatever the slots represent.
abbrev pub StaysPrepared : {A S : Type 0} (g : Ghosts A S) (k : g.Config) (slot : ℕ) (cs : List (Conn A)) (numbers : List ℕ) → Type 0
StaysPrepared g k slot cs numbers =
    (abstracts : List Connection) (a : Connection) (now : Now) → SlotsRepresent g k cs abstracts → slice_get abstracts slot ≡ Some a
    → prepared (g.app_spec k) now a numbers ≡ a

-- If the connection in a slot took a step, the application was then asked if the step requires it.
abbrev pub SettlesIn : {A S : Type 0} (g : Ghosts A S) (k : g.Config) (slot ticks : ℕ) (net : List ℕ)
    (old new : List (Conn A)) (numbers : List ℕ) (step result : Step) → Type 0
SettlesIn g k slot ticks net old new numbers step result =
    (abstracts : List Connection) (o : Outcome) → slot < length abstracts → MeetsAt g k old numbers step abstracts slot o
    → MeetsAt g k new numbers result abstracts slot (asked (g.app_spec k) (snapshot_at ticks net abstracts slot) o)

-- A segment of this peer opens the connection in a slot.
abbrev pub OpensIn : {A S : Type 0} (g : Ghosts A S) (slot iss : ℕ) (sockets : Sockets) (seg : Segment)
    (old new : List (Conn A)) → Type 0
OpensIn g slot iss sockets seg old new =
    (k : g.Config) (abstracts : List Connection) (text : List ℕ) → SlotsRepresent g k old abstracts
    → SlotsRepresent g k new (slice_set abstracts slot (accepted iss sockets (plain seg text)))

-- The segment of the step that the connection in a slot took is written.
abbrev pub SpeaksIn : {A S : Type 0} (g : Ghosts A S) (k : g.Config) (slot : ℕ) (own : Addr) (id : ℕ) (conns : List (Conn A))
    (step : Step) (result : Option ℕ) (packet : Buffer) → Type 0
SpeaksIn g k slot own id conns step result packet =
    (abstracts : List Connection) (numbers : List ℕ) (o : Outcome) → slot < length abstracts
    → MeetsAt g k conns numbers step abstracts slot o
    → IsSpoken own o.connection.sockets id (segment_of (g.app_spec k) o.connection step) result packet

-- The segment with the outstanding text of a connection is written.
abbrev pub WritesText : {A S : Type 0} (g : Ghosts A S) (k : g.Config) (own : Addr) (id : ℕ) (conn : Conn A) (packet : Buffer) → Type 0
WritesText g k own id conn packet =
    (a : Connection) → IsNamed conn a → g.represents conn.app k a.part
    → datagram_in packet ≡ datagram_bytes (datagram_to own a.sockets id
    (headed (record { flags = ACK + PSH; window = OWN_MSS; mss = None; len = conn.len })
    a (take conn.len (text_left (g.app_spec k) a.part))))

-- ---- the node

-- The connection in a slot took a step, and its segment is sent.
abbrev pub SendsStep : {A S : Type 0} (g : Ghosts A S) (slot : ℕ) (step : Step) (old new : Node A S) (result : Option ℕ) → Type 0
SendsStep g slot step old new result =
    (n : AbstractNode) (event : Event) (before : Connection) (o : Outcome) → old.addr ≡ n.addr → slot < length n.connections
    → old.table.iss ≡ initial_number (seen event n.history) → CountsRepresent old.counts (seen event n.history)
    → MeetsAt g (g.config old.shared) old.table.conns (g.numbers old.shared) step n.connections slot o
    → Steps g new result (happened (g.app_spec (g.config old.shared)) n event slot before o)

-- The connection in a slot takes this step, the application is asked if the step requires it, and the resulting segment is sent.
abbrev pub StepsIn : {A S : Type 0} (g : Ghosts A S) (slot : ℕ) (f : AppSpec → Connection → List ℕ → Outcome)
    (old new : Node A S) (result : Option ℕ) → Type 0
StepsIn g slot f old new result =
    (n : AbstractNode) (event : Event) → Represents g old n (seen event n.history) → slot < length n.connections
    → Steps g new result (happened (g.app_spec (g.config old.shared)) n event slot (connection_in slot n)
    (asked (g.app_spec (g.config old.shared)) (snapshot n event slot)
    (f (g.app_spec (g.config old.shared)) (connection_in slot n) n.numbers)))

-- A segment opens the connection in a slot, and the SYN-ACK is sent.
abbrev pub OpensBy : {A S : Type 0} (g : Ghosts A S) (slot : ℕ) (sockets : Sockets) (seg : Segment) (old new : Node A S)
    (result : Option ℕ) → Type 0
OpensBy g slot sockets seg old new result =
    (n : AbstractNode) (event : Event) (before : Connection) (text : List ℕ) → Represents g old n (seen event n.history)
    → slot < length n.connections
    → Steps g new result (happened (g.app_spec (g.config old.shared)) n event slot before
    (accept (initial_number (seen event n.history)) sockets (plain seg text) n.numbers))

-- The reply to a segment of this peer that was counted, whatever its text.
abbrev pub AnswersPeer : {A S : Type 0} (g : Ghosts A S) (sockets : Sockets) (seg : Segment)
    (f : AppSpec → AbstractNode → Sockets → PlainSegment → NodeStep) (old new : Node A S) (result : Option ℕ) → Type 0
AnswersPeer g sockets seg f old new result =
    (n : AbstractNode) (text : List ℕ) → Represents g old n (seen (Arrived sockets (plain seg text)) n.history)
    → Steps g new result (f (g.app_spec (g.config old.shared)) n sockets (plain seg text))
