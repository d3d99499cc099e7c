-- The request of the application, in ESTABLISHED and CLOSE-WAIT with nothing outstanding.
-- [add: state] Whether the application is asked in it.
use Rattle.std.specs.Prelude.{ℕ, min, Bool, true, false, List, if◌then◌else◌}
use Rattle.app_events.specs.Prelude.{AppSpec}
use Rattle.app_events.specs.declared.now.Now.{Now}
use Rattle.app_events.specs.declared.state.State.{State}
use Rattle.app_events.specs.declared.state.State.TheVariants.{Closed, CloseWait, FinWait1, LastAck}
use Rattle.app_events.specs.declared.want.Want.{Want}
use Rattle.app_events.specs.declared.want.Want.TheVariants.{Nothing, Send, Close, Abort}
use Rattle.tcp_machine.specs.Connection.{Connection}
use Rattle.tcp_machine.specs.declared.step.Step.{Step}

-- The result of a step: the connection, the shared numbers, and what the step requests.
pub record Outcome : Type 0 where
  pub connection : Connection
  pub numbers : List ℕ
  pub step : Step

abbrev pub leaves : Connection → List ℕ → Step → Outcome
leaves c numbers step = record { connection = c; numbers = numbers; step = step }

abbrev pub closes : Connection → Connection
closes c = record c { state = Closed }

-- the state after the FIN of the node was sent
abbrev pub after_own_fin : State → State
after_own_fin CloseWait = LastAck
after_own_fin _ = FinWait1

abbrev pub peer_has_closed : State → Bool
peer_has_closed CloseWait = true
peer_has_closed _ = false

-- The application requests nothing. In CLOSE-WAIT nothing more can be received, so the connection is reset.
unfoldable pub idles : Bool → Connection → List ℕ → Outcome
idles fresh c numbers =
    if peer_has_closed c.state then leaves (closes c) numbers Step.Reset
    else if fresh then leaves c numbers Step.Ack
    else leaves c numbers Step.Drop

abbrev pub does_as_wanted : Want → Bool → Connection → List ℕ → Outcome
does_as_wanted Abort fresh c numbers = leaves (closes c) numbers Step.Reset
does_as_wanted Close fresh c numbers = leaves (record c { state = after_own_fin c.state; len = 1; age = 0 }) numbers (Step.Fin false)
does_as_wanted (Send n) fresh c numbers = leaves (record c { len = min n c.mss; age = 0 }) numbers (Step.Text false)
does_as_wanted Nothing fresh c numbers = idles fresh c numbers

-- the connection after the application may have captured a snapshot
abbrev pub prepared : AppSpec → Now → Connection → List ℕ → Connection
prepared m now c numbers = record c { part = m.prepare numbers c.part now }

-- The application requests something, after it captured the snapshot that it may need.
abbrev pub ask_prepared : AppSpec → Bool → Connection → List ℕ → Outcome
ask_prepared m fresh c numbers = does_as_wanted (m.want numbers c.part) fresh c numbers

-- The application may capture a snapshot, and then requests something.
abbrev pub ask : AppSpec → Now → Bool → Connection → List ℕ → Outcome
ask m now fresh c numbers =
    does_as_wanted (m.want numbers (m.prepare numbers c.part now)) fresh (prepared m now c numbers) numbers

-- The application is asked if a step requires it. The snapshot shows the connection as the step left it.
abbrev pub asked_for : AppSpec → (Connection → Now) → Outcome → Step → Outcome
asked_for m snapshot o (Step.Ask fresh) = ask m (snapshot o.connection) fresh o.connection o.numbers
asked_for m snapshot o _ = o

-- the outcome of a step, with that of the application if the step asks it
abbrev pub asked : AppSpec → (Connection → Now) → Outcome → Outcome
asked m snapshot o = asked_for m snapshot o o.step
