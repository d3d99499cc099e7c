-- The rows that packed rows hold.
-- [add: state] Its number.
use Rattle.std.specs.Prelude.{ℕ, ◌-◌, ◌==◌, List, map, nat_lt, take, if◌then◌else◌}
use Rattle.app_events.specs.declared.row.Row.{Row}
use Rattle.app_events.specs.declared.state.State.{State}
use Rattle.app_events.specs.declared.state.State.TheVariants.{Closed, SynRcvd, Established, CloseWait}
use Rattle.app_events.specs.declared.state.State.TheVariants.{FinWait1, FinWait2, Closing, TimeWait, LastAck}
use Rattle.generators.specs.declared.packed_rows.PackedRow.{PackedRow}
use Rattle.generators.specs.declared.packed_rows.PackedRows.{PackedRows}

-- the state of a number
abbrev pub numbered_state : ℕ → State
numbered_state n =
    if n == 1 then SynRcvd
    else if n == 2 then Established
    else if n == 3 then CloseWait
    else if n == 4 then FinWait1
    else if n == 5 then FinWait2
    else if n == 6 then Closing
    else if n == 7 then TimeWait
    else if n == 8 then LastAck
    else Closed

-- The mark is the number of the state, and 16 more if something is outstanding.
abbrev pub row_in : PackedRow → Row
row_in row = record {
  slot = row.slot;
  peer = row.peer;
  port = row.port;
  state = if nat_lt 15 row.mark then numbered_state (row.mark - 16) else numbered_state row.mark;
  tries = row.tries;
  count = row.count;
  waiting = nat_lt 15 row.mark;
}

abbrev pub rows_in : PackedRows → List Row
rows_in rows = map row_in (take rows.len rows.list)
