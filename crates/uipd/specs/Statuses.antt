-- The status of a run by the end of its work, and the exit status of the process.
-- [add: command] The statuses by which the work of a command ends.
use Rattle.std.specs.Prelude.{◌≡◌, ℕ}
use Rattle.uip_edge.specs.declared.serve_end.ServeEnd.{ServeEnd}
use Rattle.uip_edge.specs.declared.serve_end.ServeEnd.TheVariants as serves
use Rattle.file_tree.specs.declared.load_fault.LoadFault.{LoadFault}
use Rattle.file_tree.specs.declared.load_fault.LoadFault.TheVariants as loads
use Rattle.site_commands.specs.declared.site_end.SiteEnd.{SiteEnd}
use Rattle.site_commands.specs.declared.site_end.SiteEnd.TheVariants as ends
use Rattle.link_replay.specs.declared.commands.replay_end.ReplayEnd.{ReplayEnd}
use Rattle.link_replay.specs.declared.commands.replay_end.ReplayEnd.TheVariants as replays
use Rattle.trace.specs.declared.slip_end.SlipEnd.{SlipEnd}
use Rattle.trace.specs.declared.slip_end.SlipEnd.TheVariants as slips
use Rattle.uipd.specs.declared.status.Status.{Status}
use Rattle.uipd.specs.declared.status.Status.TheVariants as status

-- A run returns the status of the end of its work.
abbrev pub RunsAs : {E : Type 0} → (E → Status) → (E → Type 0) → Status → Type 0
RunsAs {E} status_of Ends result = (end : E) × (result ≡ status_of end) × Ends end

-- after serving a line
abbrev pub status_of_serving : ServeEnd → Status
status_of_serving serves.End = status.Done
status_of_serving serves.LinkFault = status.LinkFault
status_of_serving serves.WriteFault = status.WriteFault
status_of_serving serves.Budget = status.Budget

-- after reading a capture file
abbrev pub status_of_slip : SlipEnd → Status
status_of_slip slips.End = status.Done
status_of_slip slips.LinkFault = status.LinkFault
status_of_slip slips.WriteFault = status.WriteFault
status_of_slip slips.Budget = status.Budget
status_of_slip (slips.Bad number why) = status.BadCapture number why

-- after a site could not be opened
abbrev pub status_of_fault : LoadFault → Status
status_of_fault loads.Shelf = status.ShelfFault
status_of_fault (loads.Bad error) = status.BadSite error
status_of_fault loads.NoMemory = status.NoMemory

-- after work on an image
abbrev pub status_of_site : SiteEnd → Status
status_of_site ends.Done = status.Done
status_of_site ends.ShelfFault = status.ShelfFault
status_of_site ends.WriteFault = status.WriteFault
status_of_site (ends.Bad error) = status.BadSite error
status_of_site ends.NoMemory = status.NoMemory

-- after a replay
abbrev pub status_of_replay : ReplayEnd → Status
status_of_replay replays.Done = status.Done
status_of_replay replays.ShelfFault = status.ShelfFault
status_of_replay replays.WriteFault = status.WriteFault
status_of_replay (replays.BadSite error) = status.BadSite error
status_of_replay (replays.BadSchedule line why) = status.BadSchedule line why
status_of_replay replays.NoMemory = status.NoMemory

-- the exit status of the process
-- [add: status] An arm with its number, and the definition of its end, as `status_of_site`.
abbrev pub exit_code_of : Status → ℕ
exit_code_of status.Done = 0
exit_code_of status.BadWords = 1
exit_code_of status.ShelfFault = 2
exit_code_of status.LinkFault = 3
exit_code_of status.WriteFault = 4
exit_code_of status.Budget = 5
exit_code_of (status.BadSite error) = 6
exit_code_of (status.BadSchedule line why) = 7
exit_code_of status.NoMemory = 8
exit_code_of (status.BadCapture number why) = 9
