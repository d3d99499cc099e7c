-- When a connection of the code represents an abstract one. Its sequence numbers are those of the offsets, and its timer is that of the
-- age. While the application may still send, its value represents the state.
-- [add: state] What of a connection represents it.
use Rattle.std.specs.Prelude.{ℕ, ◌≡◌, ◌<◌, Bool, true, false, List, if◌then◌else◌}
use Rattle.rexmit_timer.specs.Prelude.{IsAtAge, give_up_age}
use Rattle.rexmit_timer.specs.declared.timer.Timer.{Timer}
use Rattle.app_events.specs.declared.app.App.{Ghosts}
use Rattle.app_events.specs.declared.state.State.{State}
use Rattle.app_events.specs.declared.state.State.TheVariants.{Established, CloseWait}
use Rattle.tcp_table.specs.declared.conn.Conn.{Conn}
use Rattle.tcp_segment.specs.Prelude.{PlainSegment, plain_segment}
use Rattle.tcp_segment.specs.declared.segment.Segment.{Segment}
use Rattle.tcp_machine.specs.Connection.{Connection, is_live, is_resting, snd_una, rcv_nxt}
use Rattle.tcp_machine.specs.Ask.{Outcome}
use Rattle.tcp_machine.specs.OnTick.{limit_of}
use Rattle.tcp_machine.specs.declared.step.Step.{Step}

-- The application may still send.
abbrev pub is_open : State → Bool
is_open Established = true
is_open CloseWait = true
is_open _ = false

-- The timer is at the age of the outstanding segment, counts the ticks of FIN-WAIT-2 or TIME-WAIT, or is stopped.
pub record TimerRepresents (timer : Timer) (a : Connection) : Type 0 where
  pub waits : 0 < a.len → IsAtAge timer a.age
  pub before_the_end : 0 < a.len → a.age < give_up_age (limit_of a.state)
  pub counts : a.len ≡ 0 → timer.count ≡ (if is_resting a.state then a.age else 0)
  pub no_tries : a.len ≡ 0 → timer.tries ≡ 0

-- the numbers of a connection that is not CLOSED
pub record IsLike {A : Type 0} (c : Conn A) (a : Connection) : Type 0 where
  pub peer : c.peer ≡ a.sockets.peer
  pub peer_port : c.peer_port ≡ a.sockets.peer_port
  pub own_port : c.own_port ≡ a.sockets.own_port
  pub rcv_nxt : c.rcv_nxt.0 ≡ rcv_nxt a
  pub snd_nxt : c.snd_nxt.0 ≡ snd_una a
  pub len : c.len ≡ a.len
  pub mss : c.mss ≡ a.mss
  pub initial_mss : c.initial_mss ≡ a.initial_mss
  pub timer : TimerRepresents c.timer a

-- The states are equal. If the connection is not CLOSED, so are the numbers.
pub record NumbersRepresent {A : Type 0} (c : Conn A) (a : Connection) : Type 0 where
  pub state : c.state ≡ a.state
  pub like : is_live a.state ≡ true → IsLike c a

pub record ConnRepresents {A S : Type 0} (g : Ghosts A S) (k : g.Config) (c : Conn A) (a : Connection) : Type 0 where
  pub numbers : NumbersRepresent c a
  pub part : is_open a.state ≡ true → g.represents c.app k a.part

-- a segment with its text, as a plain record
abbrev pub plain : Segment → List ℕ → PlainSegment
plain seg text = plain_segment seg.seq.0 seg.ack.0 seg.flags seg.window seg.mss text

-- The step of the code has the outcome of the definition.
pub record Meets {A S : Type 0} (g : Ghosts A S) (k : g.Config) (c : Conn A) (numbers : List ℕ) (step : Step) (o : Outcome) : Type 0 where
  pub connection : ConnRepresents g k c o.connection
  pub counted : numbers ≡ o.numbers
  pub asked : step ≡ o.step

-- The same for a step that does not concern the application.
pub record MeetsAlone {A : Type 0} (c : Conn A) (numbers : List ℕ) (step : Step) (o : Outcome) : Type 0 where
  pub connection : NumbersRepresent c o.connection
  pub closed_to_it : is_open o.connection.state ≡ false
  pub counted : numbers ≡ o.numbers
  pub asked : step ≡ o.step
