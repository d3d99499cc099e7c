-- Invariants of the connections of a node and of the states of their applications, for any events.
use Rattle.std.specs.Prelude.{◌≡◌, ◌+◌, ◌<◌, ◌≤◌, ◌⊎◌, All, Bool, length, List, slice_get, Some, true, ℕ}
use Rattle.uip_wire.specs.declared.addr.Addr.{Addr}
use Rattle.app_events.specs.Prelude.{AppSpec, Pages, IsPaged, IsSnapshot, IsU32}
use Rattle.app_events.specs.declared.state.State.TheVariants.{Established, CloseWait}
use Rattle.tcp_machine.specs.Prelude.{Connection, is_live}
use Rattle.uip_node.specs.Prelude.{Event, IsEvent, initial_node, run}

-- a connection of a node that such events reach
pub record IsOfNode (m : AppSpec) (c : Connection) : Type 0 where
  pub served : ℕ → Bool
  pub addr : Addr
  pub numbers : List ℕ
  pub in_range : All IsU32 numbers
  pub events : List Event
  pub are_events : All IsEvent events
  pub slot : ℕ
  pub there : slice_get (run m served events (initial_node addr numbers)).node.connections slot ≡ Some c

-- The peer has acknowledged the SYN and what the application counts as acknowledged. What was accepted is what the application received,
-- and the FIN in CLOSE-WAIT. Later the application receives nothing more.
pub record HasTextNumbers (c : Connection) : Type 0 where
  pub output : (c.state ≡ Established) ⊎ (c.state ≡ CloseWait) → c.acked ≡ 1 + c.part.acked
  pub established : c.state ≡ Established → c.taken ≡ length c.part.input
  pub close_wait : c.state ≡ CloseWait → c.taken ≡ length c.part.input + 1
  pub input : is_live c.state ≡ true → length c.part.input ≤ c.taken

-- The counts of text agree, at every node.
abbrev pub TextNumbers : Type 0
TextNumbers = (m : AppSpec) (pages : Pages) → IsPaged m pages → (c : Connection) → IsOfNode m c → HasTextNumbers c

-- Snapshots fit: a captured snapshot has rows with one digit for slot and tries, and numbers within their types.
abbrev pub CapturesFit : Type 0
CapturesFit = (m : AppSpec) (pages : Pages) → IsPaged m pages → (c : Connection) → IsOfNode m c → All IsSnapshot c.part.snapshots

-- Texts are short: no connection sends 2^30 bytes.
abbrev pub TextsAreShort : Type 0
TextsAreShort = (m : AppSpec) (pages : Pages) → IsPaged m pages → (c : Connection) → IsOfNode m c → length (m.output c.part) < 1073741824
