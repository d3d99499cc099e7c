-- The station events of a line: what its items cause over a medium, in order.
use Rattle.std.specs.Prelude.{ℕ, ◌+◌, if◌then◌else◌, List, [], ◌∷◌, ◌++◌, length, map}
use Rattle.uip_wire.specs.declared.addr.Addr.{Addr}
use Rattle.uip_edge.specs.declared.item.Item.{Item}
use Rattle.uip_edge.specs.declared.item.Item.TheVariants.{Byte, Quiet}
use Rattle.uip_node.specs.Prelude.{event_of, tick}
use Rattle.uip_node.specs.Events.Event.{Overlong as OverlongFrame}
use Rattle.line_medium.specs.Prelude.{MediumInput, Datagram, Overlong, Own, MediumSpec}
use Rattle.serve_loop.specs.StationRuns.{StationEvent, OfMedium, OfNode}
use Rattle.serve_loop.specs.Pace.{is_beat}

-- What a medium decodes is an event of the node at the address `own`, or an act of the medium.
abbrev pub station_event_by : {A : Type 0} → Addr → MediumInput A → StationEvent A
station_event_by own (Datagram bytes) = OfNode (event_of own bytes)
station_event_by own Overlong = OfNode OverlongFrame
station_event_by own (Own a) = OfMedium a

-- a tick: the acts of the medium, then the call of each slot in order
abbrev pub tick_on : {A : Type 0} → MediumSpec A → List (StationEvent A)
tick_on w = map OfMedium w.at_tick ++ map OfNode tick

-- the tick caused by the byte with this number at a pace
abbrev pub beat_on : {A : Type 0} → MediumSpec A → ℕ → ℕ → List (StationEvent A)
beat_on w pace number = if is_beat pace number then tick_on w else []

-- The station events of items after these bytes. A byte causes what the medium decodes with it, and then its tick. A silence causes a
-- tick.
abbrev pub station_events_after : {A : Type 0} → MediumSpec A → Addr → ℕ → List ℕ → List Item → List (StationEvent A)
station_events_after w own pace before [] = []
station_events_after w own pace before (Byte b ∷ items) =
    map (station_event_by own) (w.decodes before b) ++ beat_on w pace (length before + 1)
    ++ station_events_after w own pace (before ++ b ∷ []) items
station_events_after w own pace before (Quiet ∷ items) = tick_on w ++ station_events_after w own pace before items

-- the station events of a line at the address `own` and this pace
abbrev pub station_events_of_line : {A : Type 0} → MediumSpec A → Addr → ℕ → List Item → List (StationEvent A)
station_events_of_line w own pace items = station_events_after w own pace [] items
