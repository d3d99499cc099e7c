-- What serving a line over a medium does to its environment, to the medium and to the node, and how it ends.
use Rattle.std.specs.Prelude.{All, Bool, List, Option, ℕ}
use Rattle.uip_wire.specs.declared.addr.Addr.{Addr}
use Rattle.app_events.specs.Prelude.{AppSpec}
use Rattle.app_events.specs.declared.app.App.{Ghosts}
use Rattle.uip_edge.specs.declared.item.Item.{Item}
use Rattle.uip_edge.specs.declared.serve_end.ServeEnd.{ServeEnd}
use Rattle.uip_edge.specs.declared.serve_end.ServeEnd.TheVariants as ends
use Rattle.uip_edge.specs.Prelude.{Consumes, LineView, EndsBy}
use Rattle.uip_node.specs.Prelude.{Node, Represents}
use Rattle.line_medium.specs.Prelude.{MediumSpec}
use Rattle.serve_loop.specs.StationRuns.{AllWritten, StationEvent, PrefixWritten, Station}
use Rattle.serve_loop.specs.Items.{IsItem}
use Rattle.serve_loop.specs.LineStationEvents.{station_events_of_line}

-- The output of these events was written, or a prefix of it if a write failed.
abbrev pub WrittenAtEnd : {C : Type 0} → ServeEnd → AppSpec → (ℕ → Bool) → MediumSpec C → Addr → List (StationEvent C)
    → (Station C → Type 0) → (Station C → Type 0) → Option (List ℕ) → Option (List ℕ) → Type 0
WrittenAtEnd ends.WriteFault m served w own station_events Before After old new = PrefixWritten m served w own station_events Before After old new
WrittenAtEnd _ m served w own station_events Before After old new = AllWritten m served w own station_events Before After old new

-- The node represents the node of the station, and the medium did its acts.
pub record IsStationed {A S C : Type 0} (g : Ghosts A S) (did : List C → Type 0) (node : Node A S) (s : Station C) : Type 0 where
  pub represented : Represents g node s.node s.node.history
  pub acted : did s.acts

-- A line was served over a medium, at a pace and up to n items; `did` and `did'` are the acts of the medium before and after. The items
-- are those consumed from the link, and the end has its cause. For every station that medium and node represent before, they represent
-- after it where the run leads. The output of the run was written.
pub record ServesOver {A S C : Type 0} (g : Ghosts A S) (w : MediumSpec C) (did did' : List C → Type 0) (pace n : ℕ)
    (before after : Node A S) (old new : LineView) (result : ServeEnd) : Type 0 where
  pub taken : List Item
  pub are : All IsItem taken
  pub consumed : Consumes old.link.coming new.link.coming taken
  pub ends : EndsBy n old new taken result
  pub wrote : WrittenAtEnd result (g.app_spec (g.config before.shared)) g.served w before.addr (station_events_of_line w before.addr pace taken)
      (IsStationed g did before) (IsStationed g did' after) old.sink.written new.sink.written
