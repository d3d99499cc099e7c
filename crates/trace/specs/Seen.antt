-- The frames of a serial line, each with the silences before its end.
use Rattle.std.specs.Prelude.{ℕ, ◌+◌, List, [], ◌∷◌, ◌++◌, map}
use Rattle.uip_edge.specs.declared.item.Item.{Item}
use Rattle.uip_edge.specs.declared.item.Item.TheVariants.{Byte, Quiet}
use Rattle.uip_slip.specs.Prelude.{Frame, completed}

-- a frame, and the number of silences on the line before the END that closes it
pub record Seen : Type 0 where
  pub frame : Frame
  pub silences : ℕ

abbrev pub seen_at : ℕ → Frame → Seen
seen_at silences frame = record { frame = frame; silences = silences }

-- what the items bring after the bytes and the silences before them: a byte brings the frame that it completes
abbrev pub seen_after : List ℕ → ℕ → List Item → List Seen
seen_after before silences [] = []
seen_after before silences (Byte b ∷ items) = map (seen_at silences) (completed before b) ++ seen_after (before ++ b ∷ []) silences items
seen_after before silences (Quiet ∷ items) = seen_after before (silences + 1) items

-- the frames of a line
abbrev pub seen_on : List Item → List Seen
seen_on items = seen_after [] 0 items

-- the number of silences among the items
abbrev pub silences_of : List Item → ℕ
silences_of [] = 0
silences_of (Byte b ∷ items) = silences_of items
silences_of (Quiet ∷ items) = silences_of items + 1
