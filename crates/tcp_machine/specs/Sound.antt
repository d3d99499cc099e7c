-- Invariants of every connection of a node.
-- [add: state] What holds of a connection in it.
use Rattle.std.specs.Prelude.{ℕ, ◌≡◌, ◌<◌, ◌≤◌, true}
use Rattle.uip_wire.specs.declared.sizes.TheConstants.{OWN_MSS}
use Rattle.app_events.specs.Prelude.{CanSupply}
use Rattle.app_events.specs.declared.app.App.{Ghosts}
use Rattle.app_events.specs.declared.state.State.{State}
use Rattle.app_events.specs.declared.state.State.TheVariants.{Closed, SynRcvd, Established, CloseWait}
use Rattle.app_events.specs.declared.state.State.TheVariants.{FinWait1, FinWait2, Closing, TimeWait, LastAck}
use Rattle.tcp_table.specs.declared.conn.Conn.{Conn}
use Rattle.tcp_machine.specs.Connection.{is_live}
use Rattle.tcp_machine.specs.OnTick.{limit_of}
use Rattle.tcp_machine.specs.Represents.{is_open}
use Rattle.tcp_machine.specs.declared.timeouts.TheConstants.{REST_TIME}

-- How much is outstanding in a state: a SYN or a FIN is one number; after the FIN is acknowledged nothing is.
abbrev pub LenFits : State → ℕ → Type 0
LenFits Closed len = Unit {0}
LenFits SynRcvd len = len ≡ 1
LenFits Established len = len ≤ OWN_MSS
LenFits CloseWait len = len ≤ OWN_MSS
LenFits FinWait1 len = len ≡ 1
LenFits FinWait2 len = len ≡ 0
LenFits Closing len = len ≡ 1
LenFits TimeWait len = len ≡ 0
LenFits LastAck len = len ≡ 1

-- the numbers of a connection that is not CLOSED
pub record HasSoundNumbers {A : Type 0} (c : Conn A) : Type 0 where
  pub mss_low : 1 ≤ c.mss
  pub mss_high : c.mss ≤ OWN_MSS
  pub initial_low : 1 ≤ c.initial_mss
  pub initial_high : c.initial_mss ≤ OWN_MSS
  pub tries : c.timer.tries ≤ limit_of c.state
  pub count : c.timer.count < REST_TIME
  pub len : LenFits c.state c.len

-- While the application may send, what is outstanding is part of its output.
pub record IsSound {A S : Type 0} (g : Ghosts A S) (k : g.Config) (c : Conn A) : Type 0 where
  pub numbers : is_live c.state ≡ true → HasSoundNumbers c
  pub says : is_open c.state ≡ true → CanSupply g.app_spec g.represents c.app k c.len
