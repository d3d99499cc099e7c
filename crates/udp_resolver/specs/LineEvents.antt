-- The events that the items of a serial line bring: datagrams and silences.
use Rattle.std.specs.Prelude.{◌∷◌, ◌++◌, [], flat_map, List, ℕ}
use Rattle.uip_edge.specs.declared.item.Item.{Item}
use Rattle.uip_edge.specs.declared.item.Item.TheVariants.{Byte, Quiet}
use Rattle.uip_slip.specs.Prelude.{Frame, Datagram, Overlong, completed}

pub data LineEvent : Type 0 where
  MediumInput : List ℕ → LineEvent
  Silence : LineEvent

-- An overlong frame brings nothing.
abbrev pub by_frame : Frame → List LineEvent
by_frame (Datagram bytes) = MediumInput bytes ∷ []
by_frame Overlong = []

-- The events of items after the bytes before them: a byte brings the frame that it completes.
abbrev pub received_after : List ℕ → List Item → List LineEvent
received_after before [] = []
received_after before (Byte b ∷ items) = flat_map by_frame (completed before b) ++ received_after (before ++ b ∷ []) items
received_after before (Quiet ∷ items) = Silence ∷ received_after before items

-- The events of all items of a line, in order.
abbrev pub events : List Item → List LineEvent
events items = received_after [] items
