-- The slots of the table: each connection of the code represents the abstract one in its slot.
use Rattle.std.specs.Prelude.{ℕ, ◌≡◌, ◌+◌, nat_lt, false, List, [], ◌∷◌, length, Some, slice_get, slice_set, if◌then◌else◌}
use Rattle.app_events.specs.declared.app.App.{Ghosts}
use Rattle.app_events.specs.Prelude.{is_live}
use Rattle.app_events.specs.declared.now.Now.{Now}
use Rattle.app_events.specs.declared.row.Row.{Row}
use Rattle.uip_wire.specs.declared.addr.Addr.{Addr}
use Rattle.uip_wire.specs.declared.port.Port.{Port}
use Rattle.tcp_table.specs.Prelude.{Connections, is_at}
use Rattle.tcp_table.specs.declared.conn.Conn.{Conn}
use Rattle.tcp_machine.specs.Prelude.{Connection, rcv_nxt, rows_from, snd_una, Rests, StepFits, IsSound, ConnRepresents, Outcome}
use Rattle.tcp_machine.specs.declared.step.Step.{Step}
use Rattle.tcp_machine.specs.declared.step.Step.TheVariants.{Drop}

pub record SlotsRepresent {A S : Type 0} (g : Ghosts A S) (k : g.Config) (cs : List (Conn A)) (abstracts : List Connection) : Type 0 where
  pub same_length : length abstracts ≡ length cs
  pub each : (i : ℕ) (c : Conn A) (a : Connection) → slice_get cs i ≡ Some c → slice_get abstracts i ≡ Some a → ConnRepresents g k c a

-- The connection is sound. In CLOSE-WAIT it has something outstanding.
pub record IsWellFormedConn {A S : Type 0} (g : Ghosts A S) (k : g.Config) (c : Conn A) : Type 0 where
  pub sound : IsSound g k c
  pub busy : Rests c

abbrev pub AllWellFormed : {A S : Type 0} (g : Ghosts A S) (k : g.Config) (cs : List (Conn A)) → Type 0
AllWellFormed {A} g k cs = (i : ℕ) (c : Conn A) → slice_get cs i ≡ Some c → IsWellFormedConn g k c

-- the connection in a slot, as a row of the table
abbrev pub row_in : {A : Type 0} → ℕ → Conn A → Row
row_in slot c = record {
  slot = slot;
  peer = c.peer;
  port = c.peer_port;
  state = c.state;
  tries = c.timer.tries;
  count = c.timer.count;
  waiting = nat_lt 0 c.len;
}

-- the rows of the connections that are not CLOSED, in the order of the slots
abbrev pub live_rows : {A : Type 0} → ℕ → List (Conn A) → List Row
live_rows slot [] = []
live_rows slot (c ∷ cs) = if is_live c.state then row_in slot c ∷ live_rows (slot + 1) cs else live_rows (slot + 1) cs

abbrev pub AllSound : {A S : Type 0} (g : Ghosts A S) (k : g.Config) (cs : List (Conn A)) → Type 0
AllSound {A} g k cs = (i : ℕ) (c : Conn A) → slice_get cs i ≡ Some c → IsSound g k c

-- P holds for the connection in the slot.
abbrev pub IsIn : {A : Type 0} → List (Conn A) → ℕ → (Conn A → Type 0) → Type 0
IsIn {A} cs slot P = (c : Conn A) → slice_get cs slot ≡ Some c → P c

-- The fields common to all segments of a connection: its sockets, RCV.NXT and SND.UNA.
pub record IsNamed {A : Type 0} (c : Conn A) (a : Connection) : Type 0 where
  pub peer : c.peer ≡ a.sockets.peer
  pub peer_port : c.peer_port ≡ a.sockets.peer_port
  pub own_port : c.own_port ≡ a.sockets.own_port
  pub rcv_nxt : c.rcv_nxt.0 ≡ rcv_nxt a
  pub snd_nxt : c.snd_nxt.0 ≡ snd_una a

-- The connection in a slot has this outcome, and all others are unchanged.
pub record MeetsAt {A S : Type 0} (g : Ghosts A S) (k : g.Config) (cs : List (Conn A)) (numbers : List ℕ) (step : Step)
    (abstracts : List Connection) (slot : ℕ) (o : Outcome) : Type 0 where
  pub slots : SlotsRepresent g k cs (slice_set abstracts slot o.connection)
  pub counted : numbers ≡ o.numbers
  pub asked : step ≡ o.step
  pub named : (step ≡ Drop → ⊥) → IsIn cs slot (λ c. IsNamed c o.connection)

-- All slots except one are unchanged.
abbrev pub OthersStay : {A : Type 0} → ℕ → List (Conn A) → List (Conn A) → Type 0
OthersStay {A} slot old new = (j : ℕ) (c : Conn A) → (j ≡ slot → ⊥) → slice_get new j ≡ Some c → slice_get old j ≡ Some c

-- The connection in a slot took a step. All stay sound, the step is possible in its state, and the others are unchanged.
pub record TookStep {A S : Type 0} (g : Ghosts A S) (k : g.Config) (slot : ℕ) (old new : Connections A) (step : Step) : Type 0 where
  pub long : length new.conns ≡ length old.conns
  pub iss : new.iss ≡ old.iss
  pub sound : AllSound g k new.conns
  pub fits : IsIn new.conns slot (λ c. StepFits c step)
  pub others : OthersStay slot old.conns new.conns

-- In all slots except one, a connection in CLOSE-WAIT has something outstanding.
abbrev pub OthersRest : {A : Type 0} → ℕ → List (Conn A) → Type 0
OthersRest {A} slot cs = (j : ℕ) (c : Conn A) → (j ≡ slot → ⊥) → slice_get cs j ≡ Some c → Rests c

-- No connection that is not CLOSED has these sockets.
abbrev pub NoneAt : {A : Type 0} → Addr → Port → Port → List (Conn A) → Type 0
NoneAt {A} peer peer_port own_port cs = (j : ℕ) (c : Conn A) → slice_get cs j ≡ Some c → is_at peer peer_port own_port c ≡ false

-- the snapshot for a connection in a slot
abbrev pub snapshot_at : ℕ → List ℕ → List Connection → ℕ → Connection → Now
snapshot_at ticks net abstracts slot c = record { ticks = ticks; net = net; rows = rows_from 0 (slice_set abstracts slot c) }
