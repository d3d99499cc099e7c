-- What the parts of a step leave unchanged.
use Rattle.std.specs.Prelude.{◌≡◌}
use Rattle.tcp_table.specs.declared.conn.Conn.{Conn}
use Rattle.tcp_machine.specs.Fits.{SameSockets}

-- everything except the state and the peer's sequence numbers
pub record KeepsAll {A : Type 0} (old new : Conn A) : Type 0 where
  pub sockets : SameSockets old new
  pub snd_nxt : new.snd_nxt ≡ old.snd_nxt
  pub len : new.len ≡ old.len
  pub mss : new.mss ≡ old.mss
  pub initial_mss : new.initial_mss ≡ old.initial_mss
  pub timer : new.timer ≡ old.timer
  pub app : new.app ≡ old.app

-- Nothing is outstanding any more; the rest is unchanged.
pub record IsRested {A : Type 0} (old new : Conn A) : Type 0 where
  pub sockets : SameSockets old new
  pub state : new.state ≡ old.state
  pub len : new.len ≡ 0
  pub mss : new.mss ≡ old.mss
  pub initial_mss : new.initial_mss ≡ old.initial_mss
  pub count : new.timer.count ≡ 0
  pub tries : new.timer.tries ≡ 0
  pub app : new.app ≡ old.app

-- everything except the longest text that may be sent
pub record KeepsAllButMss {A : Type 0} (old new : Conn A) : Type 0 where
  pub sockets : SameSockets old new
  pub state : new.state ≡ old.state
  pub rcv_nxt : new.rcv_nxt ≡ old.rcv_nxt
  pub snd_nxt : new.snd_nxt ≡ old.snd_nxt
  pub len : new.len ≡ old.len
  pub initial_mss : new.initial_mss ≡ old.initial_mss
  pub timer : new.timer ≡ old.timer
  pub app : new.app ≡ old.app

-- everything except the state and the timer
pub record KeepsAllButTimer {A : Type 0} (old new : Conn A) : Type 0 where
  pub sockets : SameSockets old new
  pub len : new.len ≡ old.len
  pub mss : new.mss ≡ old.mss
  pub initial_mss : new.initial_mss ≡ old.initial_mss
  pub app : new.app ≡ old.app
