-- The generated text: a function of the capture record alone.
-- [add: function] Function: the text of its capture record.
-- [add: state] State: its name, in `state_name`.
use Rattle.std.specs.Prelude.{ℕ, ◌-◌, List, [], ◌∷◌, ◌++◌, Bool, codes, decimal, flat_map, length, replicate, slice_index, if◌then◌else◌}
use Rattle.std.specs.List.{concat}
use Rattle.app_events.specs.declared.row.Row.{Row}
use Rattle.app_events.specs.declared.state.State.{State}
use Rattle.app_events.specs.declared.state.State.TheVariants.{Closed, SynRcvd, Established, CloseWait}
use Rattle.app_events.specs.declared.state.State.TheVariants.{FinWait1, FinWait2, Closing, TimeWait, LastAck}
use Rattle.generators.specs.declared.capture.Capture.{Capture}
use Rattle.generators.specs.declared.capture.Capture.TheVariants as capture

-- a number in ten places, right-aligned and filled with spaces
abbrev pub in_ten_places : ℕ → List ℕ
in_ten_places n = replicate (10 - length (decimal n)) 32 ++ decimal n

-- a counter on a line of its own
abbrev pub counter_line : ℕ → List ℕ
counter_line n = in_ten_places n ++ 10 ∷ []

abbrev pub state_name : State → List ℕ
state_name Closed = codes "CLOSED"
state_name SynRcvd = codes "SYN-RCVD"
state_name Established = codes "ESTABLISHED"
state_name CloseWait = codes "CLOSE-WAIT"
state_name FinWait1 = codes "FIN-WAIT-1"
state_name FinWait2 = codes "FIN-WAIT-2"
state_name Closing = codes "CLOSING"
state_name TimeWait = codes "TIME-WAIT"
state_name LastAck = codes "LAST-ACK"

-- something is outstanding, or not
abbrev pub waiting_mark : Bool → List ℕ
waiting_mark waiting = if waiting then codes "*" else codes " "

abbrev pub next_cell : List ℕ
next_cell = codes "</td><td>"

-- the parts of a row of an HTML table: slot, peer, state, tries, count, mark
unfoldable pub row_parts : Row → List (List ℕ)
row_parts row =
    codes "<tr><td>" ∷ decimal row.slot ∷ next_cell
    ∷ decimal (slice_index row.peer.0 0) ∷ codes "." ∷ decimal (slice_index row.peer.0 1) ∷ codes "."
    ∷ decimal (slice_index row.peer.0 2) ∷ codes "." ∷ decimal (slice_index row.peer.0 3) ∷ codes ":" ∷ decimal row.port.0 ∷ next_cell
    ∷ state_name row.state ∷ next_cell ∷ decimal row.tries ∷ next_cell ∷ decimal row.count ∷ next_cell
    ∷ waiting_mark row.waiting ∷ codes "</td></tr>\r\n" ∷ []

-- a connection as a row
abbrev pub row_text : Row → List ℕ
row_text row = concat (row_parts row)

abbrev pub capture_text : Capture → List ℕ
capture_text capture.Empty = []
capture_text (capture.Hits hits) = in_ten_places hits
capture_text (capture.Ticks ticks) = in_ten_places ticks
capture_text (capture.Net counters) = flat_map counter_line counters
capture_text (capture.Rows rows) = flat_map row_text rows
