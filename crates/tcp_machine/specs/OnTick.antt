-- The periodic call of a connection.
-- [add: state] Its arm of the periodic call.
use Rattle.std.specs.Prelude.{ℕ, ◌+◌, Bool, true, false, List, nat_lt, ◌==◌, if◌then◌else◌}
use Rattle.rexmit_timer.specs.Prelude.{beat_at}
use Rattle.rexmit_timer.specs.declared.timer.Beat.{Beat}
use Rattle.rexmit_timer.specs.declared.timer.Beat.TheVariants.{Wait, Again, GiveUp}
use Rattle.rexmit_timer.specs.declared.timer.TheConstants.{SYN_ACK_LIMIT, TEXT_LIMIT}
use Rattle.app_events.specs.Prelude.{After, AppSpec}
use Rattle.app_events.specs.declared.ending.Ending.TheVariants.{TimedOut}
use Rattle.app_events.specs.declared.state.State.{State}
use Rattle.app_events.specs.declared.state.State.TheVariants.{Closed, SynRcvd, Established, CloseWait}
use Rattle.app_events.specs.declared.state.State.TheVariants.{FinWait1, FinWait2, Closing, TimeWait, LastAck}
use Rattle.tcp_machine.specs.Connection.{Connection}
use Rattle.tcp_machine.specs.Ask.{Outcome, leaves, closes}
use Rattle.tcp_machine.specs.OnSegment.{reported_end, with_part}
use Rattle.tcp_machine.specs.declared.step.Step.{Step}
use Rattle.tcp_machine.specs.declared.timeouts.TheConstants.{REST_TIME}

-- the limit of retransmissions
abbrev pub limit_of : State → ℕ
limit_of SynRcvd = SYN_ACK_LIMIT
limit_of _ = TEXT_LIMIT

-- what is outstanding, by the state
abbrev pub outstanding : Bool → State → Step
outstanding again SynRcvd = Step.SynAck again
outstanding again Established = Step.Text again
outstanding again CloseWait = Step.Text again
outstanding again FinWait1 = Step.Fin again
outstanding again Closing = Step.Fin again
outstanding again LastAck = Step.Fin again
outstanding again _ = Step.Drop

abbrev pub grows_older : Connection → Connection
grows_older c = record c { age = c.age + 1 }

-- A tick for an outstanding segment: it waits, is retransmitted, or the connection is reset.
abbrev pub by_beat : AppSpec → Beat → Connection → List ℕ → Outcome
by_beat m Wait c numbers = leaves (grows_older c) numbers Step.Drop
by_beat m Again c numbers = leaves (grows_older c) numbers (outstanding true c.state)
by_beat m GiveUp c numbers = leaves (closes c) (reported_end m TimedOut c.state c.part numbers) Step.Reset

abbrev pub waits_for_ack : AppSpec → Connection → List ℕ → Outcome
waits_for_ack m c numbers = by_beat m (beat_at (limit_of c.state) (c.age + 1)) c numbers

-- a tick in FIN-WAIT-2 or TIME-WAIT
unfoldable pub rests_on : Connection → List ℕ → Outcome
rests_on c numbers =
    if c.age + 1 == REST_TIME then leaves (closes c) numbers Step.Drop
    else leaves (grows_older c) numbers Step.Drop

-- ESTABLISHED with nothing outstanding: the application is polled and asked.
abbrev pub polls : AppSpec → Connection → List ℕ → Outcome
polls m c numbers =
    let polled : After = m.polled numbers c.part in
    leaves (with_part polled.part c) polled.numbers (Step.Ask false)

unfoldable pub ticks_established : AppSpec → Connection → List ℕ → Outcome
ticks_established m c numbers = if nat_lt 0 c.len then waits_for_ack m c numbers else polls m c numbers

abbrev pub tick_by : AppSpec → State → Connection → List ℕ → Outcome
tick_by m Closed c numbers = leaves c numbers Step.Drop
tick_by m Established c numbers = ticks_established m c numbers
tick_by m FinWait2 c numbers = rests_on c numbers
tick_by m TimeWait c numbers = rests_on c numbers
tick_by m _ c numbers = waits_for_ack m c numbers

-- the periodic call of a connection
abbrev pub on_tick : AppSpec → Connection → List ℕ → Outcome
on_tick m c numbers = tick_by m c.state c numbers
