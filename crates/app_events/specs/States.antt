-- The states of a connection (RFC 793, section 3.2), as far as a table of connections distinguishes them.
-- [add: state] Whether a connection of the state is live, open or waits.
use Rattle.std.specs.Prelude.{Bool, true, false}
use Rattle.app_events.specs.declared.state.State.{State}
use Rattle.app_events.specs.declared.state.State.TheVariants.{Closed, TimeWait}

-- any state except CLOSED
abbrev pub is_live : State → Bool
is_live Closed = false
is_live _ = true

abbrev pub is_time_wait : State → Bool
is_time_wait TimeWait = true
is_time_wait _ = false
