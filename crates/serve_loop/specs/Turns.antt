-- What a server does in one turn, for any bytes that it consumed before.
use Rattle.std.specs.Prelude.{◌≡◌, ◌≤◌, ◌++◌, All, Bool, length, List, Option, ℕ, ⊤}
use Rattle.uip_wire.specs.declared.addr.Addr.{Addr}
use Rattle.app_events.specs.Prelude.{AppSpec}
use Rattle.app_events.specs.declared.app.App.{Ghosts}
use Rattle.uip_edge.specs.declared.item.Item.{Item}
use Rattle.uip_edge.specs.declared.serve_end.ServeEnd.{ServeEnd}
use Rattle.uip_edge.specs.declared.serve_end.ServeEnd.TheVariants as ends
use Rattle.uip_edge.specs.declared.turn.Turn.{Turn}
use Rattle.uip_edge.specs.declared.turn.Turn.TheVariants as turns
use Rattle.uip_edge.specs.Prelude.{Consumes, bytes_among, IfTook, TurnsBy, LineView}
use Rattle.uip_node.specs.Prelude.{Node, AbstractNode, Represents}
use Rattle.line_medium.specs.Prelude.{MediumSpec}
use Rattle.line_medium.specs.declared.medium.Medium.{Ghosts as MediumGhosts}
use Rattle.serve_loop.specs.declared.pacer.Pacer.{Pacer}
use Rattle.serve_loop.specs.StationRuns.{AllWritten, StationEvent, PrefixWritten, Station}
use Rattle.serve_loop.specs.StationServing.{WrittenAtEnd}
use Rattle.serve_loop.specs.Items.{IsItem}
use Rattle.serve_loop.specs.LineStationEvents.{station_events_after}
use Rattle.serve_loop.specs.Pace.{HasPassed}

-- The node represents the abstract node, which has this address, and its application has this specification.
pub record IsNode {A S : Type 0} (g : Ghosts A S) (m : AppSpec) (own : Addr) (node : Node A S) (n : AbstractNode) : Type 0 where
  pub meant : g.app_spec (g.config node.shared) ≡ m
  pub address : n.addr ≡ own
  pub represented : Represents g node n n.history

-- The node, and the medium that did these acts, represent this station.
pub record IsHere {A S C : Type 0} (g : Ghosts A S) (did : List C → Type 0) (m : AppSpec)
    (own : Addr) (node : Node A S) (s : Station C) : Type 0 where
  pub represented : IsNode g m own node s.node
  pub acted : did s.acts

-- a medium, a node, and what is written
pub record Place (M A S : Type 0) : Type 0 where
  pub medium : M
  pub node : Node A S
  pub text : Option (List ℕ)

abbrev pub place : {M A S : Type 0} → M → Node A S → Option (List ℕ) → Place M A S
place medium node text = record { medium = medium; node = node; text = text }

-- From any station that the medium with this configuration and the node represent, they represent the station after these events, and the
-- output was written.
abbrev pub Plays : {A S M : Type 0} (g : Ghosts A S) (h : MediumGhosts M) (k : h.Config)
    → (Addr → List (StationEvent h.Act)) → Place M A S → Place M A S → Type 0
Plays g h k station_events old new = (m : AppSpec) (own : Addr)
    → AllWritten m g.served (h.spec k) own (station_events own)
    (IsHere g (h.did old.medium k) m own old.node) (IsHere g (h.did new.medium k) m own new.node) old.text new.text

-- The writing failed, after a prefix of these events.
abbrev pub Breaks : {A S M : Type 0} (g : Ghosts A S) (h : MediumGhosts M) (k : h.Config)
    → (Addr → List (StationEvent h.Act)) → Place M A S → Place M A S → Type 0
Breaks g h k station_events old new = (m : AppSpec) (own : Addr)
    → PrefixWritten m g.served (h.spec k) own (station_events own)
    (IsHere g (h.did old.medium k) m own old.node) (IsHere g (h.did new.medium k) m own new.node) old.text new.text

-- A line at a pace has consumed these bytes.
pub record HasTaken (pace : ℕ) (before : List ℕ) (fed : List ℕ → Type 0) (pacer : Pacer) : Type 0 where
  pub taken : fed before
  pub paced : pacer.pace ≡ pace
  pub passed : HasPassed (length before) pacer

-- what a turn wrote for these events
abbrev pub WritesOn : {C : Type 0} → Turn ServeEnd → AppSpec → (ℕ → Bool) → MediumSpec C → Addr → List (StationEvent C)
    → (Station C → Type 0) → (Station C → Type 0) → Option (List ℕ) → Option (List ℕ) → Type 0
WritesOn (turns.Took n) m served w own station_events Before After old new = AllWritten m served w own station_events Before After old new
WritesOn (turns.Ended end) m served w own station_events Before After old new =
    WrittenAtEnd end m served w own station_events Before After old new

-- The property holds if the link ended a turn, by its end or by a failure.
abbrev pub IfLinkEnded : Turn ServeEnd → Type 0 → Type 0
IfLinkEnded (turns.Ended ends.End) P = P
IfLinkEnded (turns.Ended ends.LinkFault) P = P
IfLinkEnded turn P = ⊤

-- a turn, with the medium and the node before and after it
pub record Turns {A S M : Type 0} (g : Ghosts A S) (h : MediumGhosts M) (k : h.Config) (pace : ℕ) (before : List ℕ) (medium medium' : M)
    (node node' : Node A S) (old new : LineView) (pacer : Pacer) (room : ℕ) (turn : Turn ServeEnd) : Type 0 where
  pub items : List Item
  pub are : All IsItem items
  pub consumed : Consumes old.link.coming new.link.coming items
  pub within : length items ≤ room
  pub cause : TurnsBy old new items turn
  pub on : IfTook turn (λ n. HasTaken pace (before ++ bytes_among items) (h.fed medium' k) pacer)
  pub wrote : (m : AppSpec) (own : Addr)
      → WritesOn turn m g.served (h.spec k) own (station_events_after (h.spec k) own pace before items)
      (IsHere g (h.did medium k) m own node) (IsHere g (h.did medium' k) m own node') old.sink.written new.sink.written
