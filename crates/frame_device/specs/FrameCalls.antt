-- What a caller does to a device on a link of frames, and what is written.
use Rattle.std.specs.Prelude.{◌≡◌, ℕ, Bool, false, flat_map, List, [], ◌∷◌, ◌++◌, map, None, Some}
use Rattle.app_events.specs.Prelude.{AppSpec}
use Rattle.app_events.specs.declared.app.App.{Ghosts}
use Rattle.uip_wire.specs.declared.addr.Addr.{Addr}
use Rattle.uip_node.specs.Prelude.{AbstractNode, Periodic}
use Rattle.uip_node.specs.Events.Event.{Overlong as OverlongFrame}
use Rattle.line_medium.specs.Prelude.{MediumInput, Datagram, Overlong, Own}
use Rattle.guarded_node.specs.Arrivals.{Received, counted_at}
use Rattle.guarded_node.specs.Counts.{fresh_guard}
use Rattle.guarded_node.specs.Guarded.{guarded}
use Rattle.guarded_node.specs.declared.guard.Guard.{Guard}
use Rattle.guarded_node.specs.declared.guard.GuardCounts.{GuardCounts}
use Rattle.guarded_node.specs.declared.guard.Rules.{Rules}
use Rattle.sip_hash.specs.declared.key.Key.{Key}
use Rattle.serve_loop.specs.Prelude.{StationEvent, OfMedium, OfNode, Station, station_after_all}
use Rattle.serve_loop.specs.Prelude.{output, initial_station, IsHere}
use Rattle.frame_device.specs.FrameSpecs.{GuardedLink, acts_before, guarded_link, wire_medium}
use Rattle.frame_device.specs.declared.frames.Frames.{Ghosts as FramesGhosts}
use Rattle.frame_device.specs.declared.device.FrameDevice.{FrameDevice}

-- A frame is received, or a slot is called. A call that is refused, or reads a count, does nothing.
pub data FrameCall : Type 0 where
  InputsFrame : List ℕ → FrameCall
  CallsSlot : ℕ → FrameCall
  DoesNothing : FrameCall

-- The events of what a frame decodes to, at a guarded node. A datagram may be dropped, or come after the RST of a connection that is given
-- up for it.
abbrev pub input_events : {A : Type 0} → Rules → (ℕ → Bool) → AbstractNode → MediumInput A → List (StationEvent A)
input_events rules served n (Datagram bytes) = map OfNode (guarded rules served n bytes)
input_events rules served n Overlong = OfNode OverlongFrame ∷ []
input_events rules served n (Own a) = OfMedium a ∷ []

-- The events of a call at this node: those of its frame, which decodes to at most one datagram or event of the link; or the periodic call
-- of its slot. That of slot 0 begins a tick.
abbrev pub station_events_by : {A : Type 0} → GuardedLink A → (ℕ → Bool) → AbstractNode → FrameCall → List (StationEvent A)
station_events_by w served n (InputsFrame frame) = flat_map (input_events w.rules served n) (w.link.decodes frame)
station_events_by w served n (CallsSlot slot) = map OfMedium (acts_before w.link slot) ++ OfNode (Periodic slot) ∷ []
station_events_by w served n DoesNothing = []

-- What the guard counts for what a frame decodes to, and for a call at this node.
abbrev pub counts_by_input : {A : Type 0} → Rules → (ℕ → Bool) → AbstractNode → MediumInput A → GuardCounts → GuardCounts
counts_by_input rules served n (Datagram bytes) counts = counted_at rules served n (Received bytes) counts
counts_by_input rules served n Overlong counts = counts
counts_by_input rules served n (Own a) counts = counts

abbrev pub counts_by_inputs : {A : Type 0} → Rules → (ℕ → Bool) → AbstractNode → List (MediumInput A) → GuardCounts → GuardCounts
counts_by_inputs rules served n [] counts = counts
counts_by_inputs rules served n (it ∷ more) counts = counts_by_inputs rules served n more (counts_by_input rules served n it counts)

abbrev pub counts_by_call : {A : Type 0} → GuardedLink A → (ℕ → Bool) → AbstractNode → FrameCall → GuardCounts → GuardCounts
counts_by_call w served n (InputsFrame frame) counts = counts_by_inputs w.rules served n (w.link.decodes frame) counts
counts_by_call w served n (CallsSlot slot) counts = counts
counts_by_call w served n DoesNothing counts = counts

-- the device represents this station: its node represents the node there, and its link had these events
abbrev pub RepresentsStation : {A S M : Type 0} (g : Ghosts A S) (h : FramesGhosts M) (k : h.Config) → AppSpec → Addr → FrameDevice A M S
    → Station h.Act → Type 0
RepresentsStation g h k m own d s = IsHere g (λ acts. h.did d.frames k acts) m own d.node s

-- What a call leads to at a station, and what it writes there.
abbrev pub station_after_frame_call : {A : Type 0} → AppSpec → (ℕ → Bool) → GuardedLink A → FrameCall → Station A → Station A
station_after_frame_call m served w call s = station_after_all m served (station_events_by w served s.node call) s

abbrev pub output_of_call : {A : Type 0} → AppSpec → (ℕ → Bool) → GuardedLink A → Addr → FrameCall → Station A → List ℕ
output_of_call m served w own call s = output m served (wire_medium w) own (station_events_by w served s.node call) s

-- A call was answered by these bytes: for each station that the device represented, it represents the one after the events of the call,
-- and the output for these, a frame or nothing, was written. The configuration of its application, as a site, stays, and so do the rules
-- of its guard, which counted what it did at that station.
pub record AnswersFrame {A S M : Type 0} (g : Ghosts A S) (h : FramesGhosts M) (call : FrameCall) (old new : FrameDevice A M S)
    (handed : List ℕ) : Type 0 where
  pub kept : g.config new.node.shared ≡ g.config old.node.shared
  pub rules : new.guard.rules ≡ old.guard.rules
  pub each : (k : h.Config) (m : AppSpec) (own : Addr) (s : Station h.Act) → RepresentsStation g h k m own old s
      → RepresentsStation g h k m own new (station_after_frame_call m g.served (guarded_link (h.spec k) old.guard.rules) call s)
      × (handed ≡ output_of_call m g.served (guarded_link (h.spec k) old.guard.rules) own call s)
  pub counts : (k : h.Config) (m : AppSpec) (own : Addr) (s : Station h.Act) → RepresentsStation g h k m own old s
      → new.guard.counts ≡ counts_by_call (guarded_link (h.spec k) old.guard.rules) g.served s.node call old.guard.counts

-- A device at the address `own` of which nothing was called yet, with a guard of these rules that has done nothing.
pub record IsFreshFrameDevice {A S M : Type 0} (g : Ghosts A S) (h : FramesGhosts M)
    (k : h.Config) (m : AppSpec) (numbers : List ℕ) (rules : Rules) (own : Addr)
    (d : FrameDevice A M S) : Type 0 where
  pub represented : RepresentsStation g h k m own d (initial_station own numbers)
  pub rules_are : d.guard.rules ≡ rules
  pub counts_are : d.guard.counts ≡ (fresh_guard rules).counts
  pub unused : d.is_used ≡ false

-- A guard with these rules and counts.
abbrev pub guard_with : Rules → GuardCounts → Guard
guard_with rules counts = record { rules = rules; counts = counts }

-- The device, if its guard has this secret.
abbrev pub with_secret : {A S M : Type 0} → Key → FrameDevice A M S → FrameDevice A M S
with_secret key d = record d { guard = record d.guard { rules = record d.guard.rules { key = Some key } } }

-- Nothing was received or called, and the guard had no secret. It has this one now, and nothing else changed.
pub record GainsSecret {A S M : Type 0} (key : Key) (old new : FrameDevice A M S) : Type 0 where
  pub unused : old.is_used ≡ false
  pub none : old.guard.rules.key ≡ None
  pub set : new ≡ with_secret key old

-- ---- calls in turn, and values that are set between them

pub data FrameMove : Type 0 where
  Makes : (call : FrameCall) → FrameMove
  Gives : (number : ℕ) (text : List ℕ) → FrameMove

-- what setting a value does to the numbers of an application
abbrev pub Writing : Type 0
Writing = ℕ → List ℕ → List ℕ → List ℕ

abbrev pub with_numbers : {A : Type 0} → (List ℕ → List ℕ) → Station A → Station A
with_numbers change s = record { acts = s.acts; node = record (s.node) { numbers = change s.node.numbers } }

abbrev pub station_events_of_move : {A : Type 0} → GuardedLink A → (ℕ → Bool) → AbstractNode → FrameMove → List (StationEvent A)
station_events_of_move w served n (Makes call) = station_events_by w served n call
station_events_of_move w served n (Gives number text) = []

abbrev pub with_value : {A : Type 0} → Writing → FrameMove → Station A → Station A
with_value gives (Makes call) s = s
with_value gives (Gives number text) s = with_numbers (gives number text) s

-- the station after a move, and after moves
abbrev pub station_after_move : {A : Type 0} → AppSpec → (ℕ → Bool) → GuardedLink A → Writing → FrameMove → Station A → Station A
station_after_move m served w gives move s =
    station_after_all m served (station_events_of_move w served (with_value gives move s).node move) (with_value gives move s)

abbrev pub station_after_moves : {A : Type 0} → AppSpec → (ℕ → Bool) → GuardedLink A → Writing → List FrameMove → Station A → Station A
station_after_moves m served w gives [] s = s
station_after_moves m served w gives (move ∷ moves) s =
    station_after_moves m served w gives moves (station_after_move m served w gives move s)

-- what the guard counted after a move, and after moves
abbrev pub counts_by_move : {A : Type 0} → GuardedLink A → (ℕ → Bool) → FrameMove → Station A → GuardCounts → GuardCounts
counts_by_move w served (Makes call) s counts = counts_by_call w served s.node call counts
counts_by_move w served (Gives number text) s counts = counts

abbrev pub counts_after_moves : {A : Type 0} → AppSpec → (ℕ → Bool) → GuardedLink A → Writing → List FrameMove → Station A → GuardCounts
    → GuardCounts
counts_after_moves m served w gives [] s counts = counts
counts_after_moves m served w gives (move ∷ moves) s counts =
    counts_after_moves m served w gives moves (station_after_move m served w gives move s) (counts_by_move w served move s counts)

-- the frame that is sent at a move and at each of these, or no bytes
abbrev pub frame_sent : {A : Type 0} → AppSpec → (ℕ → Bool) → GuardedLink A → Writing → Addr → FrameMove → Station A → List ℕ
frame_sent m served w gives own move s =
    output m served (wire_medium w) own (station_events_of_move w served (with_value gives move s).node move) (with_value gives move s)

abbrev pub frames_sent : {A : Type 0} → AppSpec → (ℕ → Bool) → GuardedLink A → Writing → Addr → List FrameMove → Station A
    → List (List ℕ)
frames_sent m served w gives own [] s = []
frames_sent m served w gives own (move ∷ moves) s =
    frame_sent m served w gives own move s ∷ frames_sent m served w gives own moves (station_after_move m served w gives move s)

-- The numbers of the application were changed so between calls. The guard stays.
pub record ChangesNumbers {A S M : Type 0} (g : Ghosts A S) (h : FramesGhosts M) (change : List ℕ → List ℕ)
    (old new : FrameDevice A M S) : Type 0 where
  pub kept : g.config new.node.shared ≡ g.config old.node.shared
  pub guard : new.guard ≡ old.guard
  pub each : (k : h.Config) (m : AppSpec) (own : Addr) (s : Station h.Act) → RepresentsStation g h k m own old s
      → RepresentsStation g h k m own new (with_numbers change s)

-- a move was answered by these bytes: a call so, and setting a value by none
abbrev pub AnswersFrameMove : {A S M : Type 0} → Ghosts A S → FramesGhosts M → Writing → FrameMove → FrameDevice A M S → FrameDevice A M S
    → List ℕ → Type 0
AnswersFrameMove g h gives (Makes call) old new handed = AnswersFrame g h call old new handed
AnswersFrameMove g h gives (Gives number text) old new handed = ChangesNumbers g h (gives number text) old new × (handed ≡ [])

-- a move, and the bytes by which it was answered
pub record AnsweredFrame : Type 0 where
  pub move : FrameMove
  pub handed : List ℕ

abbrev pub frame_moves_of : List AnsweredFrame → List FrameMove
frame_moves_of all = map (λ it. it.move) all

abbrev pub handed_of : List AnsweredFrame → List (List ℕ)
handed_of all = map (λ it. it.handed) all

-- moves in turn were answered so
abbrev pub AnswersAllFrames : {A S M : Type 0} → Ghosts A S → FramesGhosts M → Writing → List AnsweredFrame → FrameDevice A M S
    → FrameDevice A M S → Type 0
AnswersAllFrames g h gives [] a c = a ≡ c
AnswersAllFrames {A = A} {S = S} {M = M} g h gives (it ∷ all) a c =
    (b : FrameDevice A M S) × AnswersFrameMove g h gives it.move a b it.handed × AnswersAllFrames g h gives all b c

-- This holds of every fresh device with its guarded link, and of any moves in turn that it answers.
abbrev pub FromFresh : {A S M : Type 0} (g : Ghosts A S) (h : FramesGhosts M)
    → (h.Config → GuardedLink h.Act → AppSpec → Writing → List ℕ → Addr → List AnsweredFrame → FrameDevice A M S → FrameDevice A M S
    → Type 0)
    → Type 0
FromFresh {A = A} {S = S} {M = M} g h P =
    (k : h.Config) (m : AppSpec) (gives : Writing) (numbers : List ℕ) (rules : Rules) (own : Addr) (all : List AnsweredFrame)
    (old new : FrameDevice A M S)
    → IsFreshFrameDevice g h k m numbers rules own old → AnswersAllFrames g h gives all old new
    → P k (guarded_link (h.spec k) rules) m gives numbers own all old new
