-- New text fits the window of the peer (RFC 793, section 3.7, "Managing the Window"). A window of 0 counts as an open one. The window of
-- the segment that acknowledges the SYN is not respected.
use Rattle.std.specs.Prelude.{◌≡◌, ◌+◌, ◌<◌, ◌≤◌, ◌⊎◌, ◌∷◌, [], All, Bool, drop, false, length, List, None, slice_get, Some, true, ℕ}
use Rattle.uip_wire.specs.Prelude.{wrap}
use Rattle.uip_wire.specs.declared.addr.Addr.{Addr}
use Rattle.tcp_segment.specs.Prelude.{PlainSegment, has_syn, has_ack}
use Rattle.app_events.specs.Prelude.{AppSpec, IsAddr, IsU32}
use Rattle.tcp_machine.specs.Prelude.{Sockets, occupies_sequence_space}
use Rattle.uip_node.specs.Prelude.{Event, initial_node, IsSteady}
use Rattle.node_laws.specs.Traces.{Exchange, sent_at, exchanges_with, IsIncarnationIn}
use Rattle.node_laws.specs.Turns.{trace_of}
use Rattle.node_laws.specs.Wire.{IsOfLine}

-- The node discards the received segment: its number is not the one expected, which the bare ACK sent in reply states.
pub record IsPassedOver (x : Exchange) (s : PlainSegment) : Type 0 where
  pub placed : occupies_sequence_space s ≡ true
  pub answer : PlainSegment
  pub output : x.output ≡ Some answer
  pub bare : occupies_sequence_space answer ≡ false
  pub other : s.seq ≡ answer.ack → ⊥

-- The segment is the first that acknowledges the SYN. Only the SYN was sent before, and any earlier segment with the same acknowledgement
-- was discarded.
pub record IsFirstToAcknowledge (s : PlainSegment) (before : List Exchange) : Type 0 where
  pub acks : has_ack s.flags ≡ true
  pub syn_alone : (k : ℕ) (t : PlainSegment) → sent_at before k ≡ Some t → occupies_sequence_space t ≡ true
      → (has_syn t.flags ≡ true) × (s.ack ≡ wrap (t.seq + 1))
  pub no_earlier : (k : ℕ) (y : Exchange) (t : PlainSegment) → slice_get before k ≡ Some y → y.received ≡ Some t → has_ack t.flags ≡ true
      → t.ack ≡ s.ack → IsPassedOver y t

-- The window of this segment allows this size, or an exception applies.
abbrev pub Allows : PlainSegment → List Exchange → ℕ → Type 0
Allows s before size = (size ≤ s.window) ⊎ ((s.window ≡ 0) ⊎ IsFirstToAcknowledge s before)

-- The size fits the window of the newest received segment that was not discarded.
abbrev pub FitsNewest : List Exchange → ℕ → Type 0
FitsNewest [] size = ⊥
FitsNewest (x ∷ older) size =
    ((x.received ≡ None) × FitsNewest older size)
    ⊎ ((s : PlainSegment) × (x.received ≡ Some s) × ((IsPassedOver x s × FitsNewest older size) ⊎ Allows s older size))

-- Text is sent at a number at which nothing that occupies sequence space was sent before.
pub record IsNewText (incarnation : List Exchange) (k : ℕ) (s : PlainSegment) : Type 0 where
  pub output : sent_at incarnation k ≡ Some s
  pub some : 0 < length s.text
  pub new : (j : ℕ) (t : PlainSegment) → k < j → sent_at incarnation j ≡ Some t → occupies_sequence_space t ≡ true → t.seq ≡ s.seq → ⊥

-- New text fits the newest window.
abbrev pub FitsWindows : List Exchange → Type 0
FitsWindows incarnation = (k : ℕ) (s : PlainSegment) → IsNewText incarnation k s → FitsNewest (drop k incarnation) (length s.text)

-- This holds for every incarnation, over any events of a line, with every steady application.
abbrev pub WindowsAreRespected : Type 0
WindowsAreRespected =
    (m : AppSpec) → IsSteady m → (ports : ℕ → Bool) (own : Addr) → IsAddr own → (numbers : List ℕ) → All IsU32 numbers
    → (events : List Event) → All (IsOfLine own) events → (p : Sockets) (incarnation : List Exchange)
    → IsIncarnationIn (exchanges_with p (trace_of m ports events (initial_node own numbers))) incarnation → FitsWindows incarnation
