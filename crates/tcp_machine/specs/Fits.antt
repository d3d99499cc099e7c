-- Which steps are possible in which state.
use Rattle.std.specs.Prelude.{◌≡◌, ◌<◌, true}
use Rattle.app_events.specs.declared.state.State.TheVariants.{CloseWait}
use Rattle.tcp_table.specs.declared.conn.Conn.{Conn}
use Rattle.tcp_machine.specs.Represents.{is_open}
use Rattle.tcp_machine.specs.declared.step.Step.{Step}

-- The application can be asked: it may still send, and nothing is outstanding.
pub record CanBeAsked {A : Type 0} (c : Conn A) : Type 0 where
  pub open_to_it : is_open c.state ≡ true
  pub nothing_out : c.len ≡ 0

-- A connection in CLOSE-WAIT that is not asked has something outstanding.
abbrev pub Rests : {A : Type 0} → Conn A → Type 0
Rests c = c.state ≡ CloseWait → 0 < c.len

-- Text is sent only while the application may send, and it is asked only if it can be.
abbrev pub StepFits : {A : Type 0} → Conn A → Step → Type 0
StepFits c Step.Drop = Rests c
StepFits c Step.Ack = Rests c
StepFits c (Step.SynAck again) = Rests c
StepFits c (Step.Text again) = (is_open c.state ≡ true) × (0 < c.len)
StepFits c (Step.Fin again) = Rests c
StepFits c Step.Reset = Rests c
StepFits c (Step.Ask fresh) = CanBeAsked c

-- The step replies to the network, and does not ask the application.
abbrev pub IsAnswer : Step → Type 0
IsAnswer Step.Drop = Unit {0}
IsAnswer Step.Ack = Unit {0}
IsAnswer (Step.SynAck again) = Unit {0}
IsAnswer (Step.Text again) = Unit {0}
IsAnswer (Step.Fin again) = Unit {0}
IsAnswer Step.Reset = Unit {0}
IsAnswer (Step.Ask fresh) = ⊥

-- The peer and the ports are unchanged.
pub record SameSockets {A : Type 0} (old new : Conn A) : Type 0 where
  pub peer : new.peer ≡ old.peer
  pub peer_port : new.peer_port ≡ old.peer_port
  pub own_port : new.own_port ≡ old.own_port

-- RCV.NXT and SND.UNA are unchanged.
pub record SameNumbers {A : Type 0} (old new : Conn A) : Type 0 where
  pub rcv_nxt : new.rcv_nxt ≡ old.rcv_nxt
  pub snd_nxt : new.snd_nxt ≡ old.snd_nxt
