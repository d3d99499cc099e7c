-- The events of a line: what its items cause at the node, in order.
use Rattle.std.specs.Prelude.{ℕ, ◌+◌, if◌then◌else◌, List, [], ◌∷◌, ◌++◌, length, map}
use Rattle.uip_wire.specs.declared.addr.Addr.{Addr}
use Rattle.uip_edge.specs.declared.item.Item.{Item}
use Rattle.uip_edge.specs.declared.item.Item.TheVariants.{Byte, Quiet}
use Rattle.uip_slip.specs.Prelude.{Frame, Datagram, Overlong, completed}
use Rattle.uip_node.specs.Prelude.{event_of, Event, tick}
use Rattle.uip_node.specs.Events.Event.{Overlong as OverlongFrame}
use Rattle.serve_loop.specs.Pace.{is_beat}

-- the event of a frame at the node with the address `own`
abbrev pub event_by : Addr → Frame → Event
event_by own (Datagram bytes) = event_of own bytes
event_by own Overlong = OverlongFrame

-- the tick caused by the byte with this number at a pace
abbrev pub beat : ℕ → ℕ → List Event
beat pace number = if is_beat pace number then tick else []

-- The events of items after these bytes. A byte causes the frame that it completes, and then its tick. A silence causes a tick.
abbrev pub events_after : Addr → ℕ → List ℕ → List Item → List Event
events_after own pace before [] = []
events_after own pace before (Byte b ∷ items) =
    map (event_by own) (completed before b) ++ beat pace (length before + 1) ++ events_after own pace (before ++ b ∷ []) items
events_after own pace before (Quiet ∷ items) = tick ++ events_after own pace before items

-- the events of a line at the address `own` and this pace
abbrev pub line_events : Addr → ℕ → List Item → List Event
line_events own pace items = events_after own pace [] items
