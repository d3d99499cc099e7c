-- How the trace of a device on a link of frames conforms, move by move.
use Rattle.std.specs.Prelude.{◌≡◌, ◌≤◌, ◌∷◌, [], All, Bool, flat_map, length, List, map, ℕ, ⊤}
use Rattle.app_events.specs.Prelude.{AppSpec, IsByte, IsPaged, IsU32, Pages}
use Rattle.uip_wire.specs.declared.addr.Addr.{Addr}
use Rattle.node_laws.specs.Prelude.{ArrivesIn, OutputModel, TraceConforms, TraceEntry, IsDecoded}
use Rattle.guard_laws.specs.Lens.{lens}
use Rattle.guard_laws.specs.Shifted.{entry_on_wire}
use Rattle.serve_loop.specs.Prelude.{Station}
use Rattle.line_laws.specs.Prelude.{events_among, text_in}
use Rattle.frame_device.specs.FrameCalls.{AnsweredFrame, FrameMove, Gives, InputsFrame, Makes, Writing, station_after_move}
use Rattle.frame_device.specs.FrameCalls.{station_events_of_move, with_value}
use Rattle.frame_device.specs.FrameSpecs.{GuardedLink, wire_medium}

-- a received frame is bytes, and a value is at most 32 bytes
abbrev pub IsFrameOfBytes : FrameMove → Type 0
IsFrameOfBytes (Makes (InputsFrame frame)) = All IsByte frame
IsFrameOfBytes (Gives number text) = (length text ≤ 32) × All IsByte text
IsFrameOfBytes _ = ⊤

abbrev pub KeepsU32 : Writing → Type 0
KeepsU32 gives = (number : ℕ) (text numbers : List ℕ) → IsFrameOfBytes (Gives number text) → All IsU32 numbers
    → All IsU32 (gives number text numbers)

-- A move that was answered, the station at which it was made, and the trace entries of its events.
pub record FrameTrace (A : Type 0) : Type 0 where
  pub answered : AnsweredFrame
  pub station : Station A
  pub turns : List TraceEntry

-- The entries are of the events of the move at its station. It writes the frame of what is sent in them, as it goes to the wire, or of the
-- link's own event.
pub record HandsOutFrame {A : Type 0} (w : GuardedLink A) (served : ℕ → Bool) (own : Addr) (it : FrameTrace A) : Type 0 where
  pub over : map (λ t. t.event) it.turns ≡ events_among (station_events_of_move w served it.station.node it.answered.move)
  pub hands : it.answered.handed
      ≡ text_in (wire_medium w) own it.station.acts (station_events_of_move w served it.station.node it.answered.move) it.turns

-- The stations at which these moves are made.
abbrev pub stations_at : {A : Type 0} → AppSpec → (ℕ → Bool) → GuardedLink A → Writing → List FrameMove → Station A → List (Station A)
stations_at m served w gives [] s = []
stations_at m served w gives (move ∷ moves) s =
    with_value gives move s ∷ stations_at m served w gives moves (station_after_move m served w gives move s)

-- Moves at these stations were answered so in turn. Each writes the frame of what is sent in entries of its own. The trace of all moves
-- conforms, in the numbers of the node and in those of the wire, and each segment is read by its peer. If the output of the application is
-- a page, that of each cooperating peer arrives, over any link that does not lose too much: what the guard drops is lost.
pub record FramesConform {A : Type 0} (w : GuardedLink A) (m : AppSpec) (model : ℕ → OutputModel) (served : ℕ → Bool)
    (own : Addr) (stations : List (Station A)) (all : List AnsweredFrame) : Type 0 where
  pub moves : List (FrameTrace A)
  pub answered : map (λ it. it.answered) moves ≡ all
  pub at : map (λ it. it.station) moves ≡ stations
  pub each : All (HandsOutFrame w served own) moves
  pub keeps : TraceConforms model served (flat_map (λ it. it.turns) moves)
  pub wire : TraceConforms model served (map (entry_on_wire (lens w.rules.key own)) (flat_map (λ it. it.turns) moves))
  pub read : All (IsDecoded own) (flat_map (λ it. it.turns) moves)
  pub arrives : (pages : Pages) → IsPaged m pages → ArrivesIn m pages (flat_map (λ it. it.turns) moves)
