-- How a connection is reported to C.
-- [add: state] Its number for C, in `state_number`.
use Rattle.std.specs.Prelude.{◌≡◌, ℕ, Option, None, Some, if◌then◌else◌, replicate}
use Rattle.app_events.specs.declared.row.Row.{Row}
use Rattle.app_events.specs.declared.state.State.{State}
use Rattle.app_events.specs.declared.state.State.TheVariants.{Closed, SynRcvd, Established, CloseWait, FinWait1, FinWait2}
use Rattle.app_events.specs.declared.state.State.TheVariants.{Closing, TimeWait, LastAck}
use Rattle.c_pages.specs.declared.row.UipRow.{UipRow}

-- The states by their numbers in include/uip.h.
abbrev pub state_number : State → ℕ
state_number Closed = 0
state_number SynRcvd = 1
state_number Established = 2
state_number CloseWait = 3
state_number FinWait1 = 4
state_number FinWait2 = 5
state_number Closing = 6
state_number TimeWait = 7
state_number LastAck = 8

-- The C structure has the fields of the row.
pub record IsReportedRow (row : Row) (reported : UipRow) : Type 0 where
  pub state : reported.state ≡ state_number row.state
  pub peer : reported.peer ≡ row.peer.0
  pub port : reported.port ≡ row.port.0
  pub tries : reported.tries ≡ row.tries
  pub count : reported.count ≡ row.count
  pub waiting : reported.waiting ≡ (if row.waiting then 1 else 0)

-- All fields except the status are 0.
abbrev pub IsNoRow : UipRow → Type 0
IsNoRow reported =
    reported ≡ record { status = reported.status; state = 0; peer = replicate 4 0; port = 0; tries = 0; count = 0; waiting = 0 }

-- For a CLOSED slot only the state is reported, which is 0.
abbrev pub ReportsRow : Option Row → UipRow → Type 0
ReportsRow None reported = IsNoRow reported
ReportsRow (Some row) reported = IsReportedRow row reported
