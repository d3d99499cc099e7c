-- The events of a line: its datagrams and its silences.
use Rattle.std.specs.Prelude.{◌≡◌, ◌+◌, ◌∷◌, [], flat_map, List, ℕ}
use Rattle.uip_edge.specs.Prelude.{bytes_among}
use Rattle.uip_edge.specs.declared.item.Item.{Item}
use Rattle.uip_edge.specs.declared.item.Item.TheVariants.{Byte, Quiet}
use Rattle.uip_slip.specs.Prelude.{Frame, Datagram, Overlong, frames}
use Rattle.udp_resolver.specs.Fates.{silences}
use Rattle.udp_resolver.specs.LineEvents.{LineEvent, MediumInput, Silence, events}

-- The datagrams received, in order.
abbrev pub came_in : List LineEvent → List (List ℕ)
came_in [] = []
came_in (MediumInput datagram ∷ later) = datagram ∷ came_in later
came_in (Silence ∷ later) = came_in later

-- The datagram of a frame; an overlong one has none.
abbrev pub carried_by : Frame → List (List ℕ)
carried_by (Datagram bytes) = bytes ∷ []
carried_by Overlong = []

-- The number of silences among the items.
abbrev pub silent_items : List Item → ℕ
silent_items [] = 0
silent_items (Byte b ∷ items) = silent_items items
silent_items (Quiet ∷ items) = silent_items items + 1

-- The datagrams received are those among the frames of the line's bytes, in order, and the silences are the line's.
pub record EventsAreOfLine : Type 0 where
  pub datagrams : (items : List Item) → came_in (events items) ≡ flat_map carried_by (frames (bytes_among items))
  pub silent : (items : List Item) → silences (events items) ≡ silent_items items
