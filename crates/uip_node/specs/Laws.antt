-- Definitions that the laws of a node share.
use Rattle.std.specs.Prelude.{◌≡◌, ◌+◌, ◌<◌, ◌≤◌, ◌∷◌, if◌then◌else◌, [], All, drop, length, List, take, ℕ}
use Rattle.tcp_segment.specs.Prelude.{PlainSegment}
use Rattle.app_events.specs.Prelude.{AppSpec, AppState, Snapshot, Pages, IsSnapshot, IsByte, IsAddr}
use Rattle.app_events.specs.declared.now.Now.{Now}
use Rattle.tcp_machine.specs.Prelude.{Sockets, Connection, closed, serves}
use Rattle.uip_node.specs.Events.{Event}
use Rattle.uip_node.specs.Events.Event.{Arrived}

-- an event whose addresses and ports fit their types
abbrev pub IsEvent : Event → Type 0
IsEvent (Arrived sockets s) = IsAddr sockets.peer × (sockets.peer_port.0 < 65536)
IsEvent _ = Unit {0}

-- the first connection that serves these sockets; a CLOSED one if there is none
abbrev pub serving : Sockets → List Connection → Connection
serving sockets [] = closed
serving sockets (c ∷ cs) = if serves sockets c then c else serving sockets cs

-- If the input consists of bytes, and the snapshots are in range, the page consists of bytes.
abbrev pub HasBytes : Pages → Type 0
HasBytes pages = (input : List ℕ) (snapshots : List Snapshot)
    → All IsByte input → All IsSnapshot snapshots → All IsByte (pages.page input snapshots)

-- The input consists of bytes: each call keeps this, if the data is bytes. If it holds, and the snapshots are in range, the output is
-- bytes.
pub record SendsBytes (m : AppSpec) : Type 0 where
  pub output : (p : AppState) → All IsByte p.input → All IsSnapshot p.snapshots → All IsByte (m.output p)
  pub connected : (numbers : List ℕ) (port : ℕ) → All IsByte (m.connected numbers port).part.input
  pub newdata : (numbers : List ℕ) (p : AppState) (piece : List ℕ) → All IsByte p.input → All IsByte piece
      → All IsByte (m.newdata numbers p piece).part.input
  pub prepare : (numbers : List ℕ) (p : AppState) (now : Now) → All IsByte p.input → All IsByte (m.prepare numbers p now).input
  pub acked : (numbers : List ℕ) (p : AppState) (n : ℕ) → All IsByte p.input → All IsByte (m.acked numbers p n).part.input
  pub polled : (numbers : List ℕ) (p : AppState) → All IsByte p.input → All IsByte (m.polled numbers p).part.input

-- The same flags and the same text.
pub record Alike (s t : PlainSegment) : Type 0 where
  pub flags : s.flags ≡ t.flags
  pub text : s.text ≡ t.text

-- The text is the slice of the whole at this offset.
pub record IsSlice (whole text : List ℕ) (at : ℕ) : Type 0 where
  pub fits : at + length text ≤ length whole
  pub same : text ≡ take (length text) (drop at whole)
