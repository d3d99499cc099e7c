-- What the private calls of a turn do. A turn is one read of the link and the output due for it.
use Rattle.std.specs.Io.KnownBytes.{Appends}
use Rattle.std.specs.Prelude.{◌<◌, ◌≤◌, ℕ, List, [], ◌∷◌, ◌++◌, Option, length, map, take}
use Rattle.uip_wire.specs.declared.addr.Addr.{Addr}
use Rattle.app_events.specs.declared.app.App.{Ghosts}
use Rattle.packet_buffer.specs.Prelude.{Buffer}
use Rattle.uip_edge.specs.declared.item.Item.TheVariants.{Byte}
use Rattle.uip_edge.specs.Prelude.{BreaksOff}
use Rattle.uip_node.specs.Prelude.{Event, Reply, IsSent}
use Rattle.line_medium.specs.Prelude.{all_decoded}
use Rattle.line_medium.specs.declared.medium.Medium.{Ghosts as MediumGhosts}
use Rattle.serve_loop.specs.declared.pacer.Pacer.{Pacer}
use Rattle.serve_loop.specs.StationRuns.{OfNode, StationEvent, reply_text}
use Rattle.serve_loop.specs.LineStationEvents.{station_event_by, station_events_after}
use Rattle.serve_loop.specs.Turns.{Breaks, HasTaken, Place, Plays}

-- The bytes that the medium was fed are unchanged.
abbrev pub StaysFed : {M : Type 0} (h : MediumGhosts M) → M → M → Type 0
StaysFed h old new = (k : h.Config) (before : List ℕ) → h.fed old k before → h.fed new k before

-- For any configuration of the medium, the output of these events is written.
abbrev pub PlaysStationEvents : {A S M : Type 0} (g : Ghosts A S) (h : MediumGhosts M) → ((k : h.Config) → Addr → List (StationEvent h.Act))
    → Place M A S → Place M A S → Type 0
PlaysStationEvents g h station_events old new = (k : h.Config) → Plays g h k (station_events k) old new

-- The writing of it fails.
abbrev pub BreaksStationEvents : {A S M : Type 0} (g : Ghosts A S) (h : MediumGhosts M)
    → ((k : h.Config) → Addr → List (StationEvent h.Act))
    → Place M A S → Place M A S → Type 0
BreaksStationEvents g h station_events old new = (k : h.Config) → Breaks g h k (station_events k) old new

-- The output of one event of the node is written, or the writing of it fails. The event may depend on the address of the node.
abbrev pub PlaysNodeEvent : {A S M : Type 0} (g : Ghosts A S) (h : MediumGhosts M) → (Addr → Event) → Place M A S → Place M A S → Type 0
PlaysNodeEvent g h event old new = PlaysStationEvents g h (λ k own. OfNode (event own) ∷ []) old new

abbrev pub BreaksNodeEvent : {A S M : Type 0} (g : Ghosts A S) (h : MediumGhosts M) → (Addr → Event) → Place M A S → Place M A S → Type 0
BreaksNodeEvent g h event old new = BreaksStationEvents g h (λ k own. OfNode (event own) ∷ []) old new

-- A line that has consumed any bytes consumes these.
abbrev pub TakesBytes : {M : Type 0} (h : MediumGhosts M) → List ℕ → M → M → Pacer → Pacer → Type 0
TakesBytes h bytes old new pacer pacer' =
    (k : h.Config) (pace : ℕ) (before : List ℕ) → HasTaken pace before (h.fed old k) pacer
    → HasTaken pace (before ++ bytes) (h.fed new k) pacer'

-- After any bytes that a line has consumed, the output of these is written.
abbrev pub PlaysBytes : {A S M : Type 0} (g : Ghosts A S) (h : MediumGhosts M) → List ℕ → Pacer → Place M A S → Place M A S → Type 0
PlaysBytes g h bytes pacer old new =
    (k : h.Config) (pace : ℕ) (before : List ℕ) → HasTaken pace before (h.fed old.medium k) pacer
    → Plays g h k (λ own. station_events_after (h.spec k) own pace before (map Byte bytes)) old new

-- The writing of it fails.
abbrev pub BreaksBytes : {A S M : Type 0} (g : Ghosts A S) (h : MediumGhosts M) → List ℕ → Pacer → Place M A S → Place M A S → Type 0
BreaksBytes g h bytes pacer old new =
    (k : h.Config) (pace : ℕ) (before : List ℕ) → HasTaken pace before (h.fed old.medium k) pacer
    → Breaks g h k (λ own. station_events_after (h.spec k) own pace before (map Byte bytes)) old new

-- After any bytes that the medium was fed, the output of what these decode to is written.
abbrev pub PlaysBrought : {A S M : Type 0} (g : Ghosts A S) (h : MediumGhosts M) → List ℕ → Place M A S → Place M A S → Type 0
PlaysBrought g h bytes old new =
    (k : h.Config) (before : List ℕ) → h.fed old.medium k before
    → Plays g h k (λ own. map (station_event_by own) (all_decoded (h.spec k) before bytes)) old new

-- The writing fails in the output of a prefix of them.
abbrev pub BreaksBrought : {A S M : Type 0} (g : Ghosts A S) (h : MediumGhosts M) → List ℕ → Place M A S → Place M A S → Type 0
BreaksBrought g h bytes old new =
    (k : h.Config) (before : List ℕ) → h.fed old.medium k before → (n : ℕ) × (0 < n) × (n ≤ length bytes)
    × Breaks g h k (λ own. map (station_event_by own) (all_decoded (h.spec k) before (take n bytes))) old new

-- The encoded datagram that a call of the node has sent is written.
abbrev pub WritesSent : {M : Type 0} (h : MediumGhosts M) → M → Option ℕ → Buffer → Option (List ℕ) → Option (List ℕ) → Type 0
WritesSent h medium sent packet old new =
    (k : h.Config) (acts : List h.Act) (own : Addr) (reply : Option Reply) → h.did medium k acts → IsSent own reply sent packet
    → Appends old new (reply_text (h.spec k) acts own reply)

-- The writing of it fails.
abbrev pub BreaksSent : {M : Type 0} (h : MediumGhosts M) → M → Option ℕ → Buffer → Option (List ℕ) → Option (List ℕ) → Type 0
BreaksSent h medium sent packet old new =
    (k : h.Config) (acts : List h.Act) (own : Addr) (reply : Option Reply) → h.did medium k acts → IsSent own reply sent packet
    → BreaksOff [] (reply_text (h.spec k) acts own reply) old new
