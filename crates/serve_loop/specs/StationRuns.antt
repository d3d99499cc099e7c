-- A station, which is a medium and the abstract node: its transitions and its output over a list of station events.
use Rattle.std.specs.Prelude.{◌≡◌, ℕ, Bool, List, [], ◌∷◌, ◌++◌, Option}
use Rattle.std.specs.Io.KnownBytes.{Appends}
use Rattle.std.specs.Option.{option_map_or}
use Rattle.uip_wire.specs.declared.addr.Addr.{Addr}
use Rattle.app_events.specs.Prelude.{AppSpec}
use Rattle.uip_node.specs.Prelude.{reply_bytes, Event, Reply, AbstractNode, step}
use Rattle.line_medium.specs.Prelude.{MediumSpec}
use Rattle.uip_edge.specs.Prelude.{BreaksOff}

-- a medium with the acts that it has done, and the node
pub record Station (A : Type 0) : Type 0 where
  pub acts : List A
  pub node : AbstractNode

-- An event of a station: an act of the medium, or an event of the node.
pub data StationEvent (A : Type 0) : Type 0 where
  OfMedium : A → StationEvent A
  OfNode : Event → StationEvent A

-- the encoded reply to an event, if there is one
abbrev pub reply_text : {A : Type 0} → MediumSpec A → List A → Addr → Option Reply → List ℕ
reply_text w acts own reply = option_map_or (λ r. w.text acts (reply_bytes own r)) reply []

-- the station after an event
abbrev pub station_after : {A : Type 0} → AppSpec → (ℕ → Bool) → Station A → StationEvent A → Station A
station_after m served s (OfMedium a) = record { acts = s.acts ++ a ∷ []; node = s.node }
station_after m served s (OfNode e) = record { acts = s.acts; node = (step m served s.node e).node }

-- the bytes written for an event
abbrev pub output_of_event : {A : Type 0} → AppSpec → (ℕ → Bool) → MediumSpec A → Addr → Station A → StationEvent A → List ℕ
output_of_event m served w own s (OfMedium a) = w.output_at a
output_of_event m served w own s (OfNode e) = reply_text w s.acts own (step m served s.node e).sent

-- the station after a list of events
abbrev pub station_after_all : {A : Type 0} → AppSpec → (ℕ → Bool) → List (StationEvent A) → Station A → Station A
station_after_all m served [] s = s
station_after_all m served (d ∷ station_events) s = station_after_all m served station_events (station_after m served s d)

-- the output for a list of events, in order
abbrev pub output : {A : Type 0} → AppSpec → (ℕ → Bool) → MediumSpec A → Addr → List (StationEvent A) → Station A → List ℕ
output m served w own [] s = []
output m served w own (d ∷ station_events) s =
    output_of_event m served w own s d ++ output m served w own station_events (station_after m served s d)

-- Everything was written. From each station with the first property, the events lead to one with the second, and their output was
-- appended.
pub record AllWritten {A : Type 0} (m : AppSpec) (served : ℕ → Bool) (w : MediumSpec A) (own : Addr) (station_events : List (StationEvent A))
    (Before After : Station A → Type 0) (old new : Option (List ℕ)) : Type 0 where
  pub each : (s : Station A) → Before s → After (station_after_all m served station_events s)
      × Appends old new (output m served w own station_events s)

-- The run stopped at one of the events. All output before it was appended, and then a prefix of the output of that event, which is not
-- empty.
pub record StopsIn {A : Type 0} (m : AppSpec) (served : ℕ → Bool) (w : MediumSpec A) (own : Addr) (station_events : List (StationEvent A))
    (After : Station A → Type 0) (old new : Option (List ℕ)) (s : Station A) : Type 0 where
  pub done : List (StationEvent A)
  pub last : StationEvent A
  pub later : List (StationEvent A)
  pub split : station_events ≡ done ++ last ∷ later
  pub after : After (station_after_all m served (done ++ last ∷ []) s)
  pub broke : BreaksOff (output m served w own done s) (output_of_event m served w own (station_after_all m served done s) last) old new

-- The writing failed: the run from each station with the first property stopped at one with the second.
pub record PrefixWritten {A : Type 0} (m : AppSpec) (served : ℕ → Bool) (w : MediumSpec A)
    (own : Addr) (station_events : List (StationEvent A))
    (Before After : Station A → Type 0) (old new : Option (List ℕ)) : Type 0 where
  pub each : (s : Station A) → Before s → StopsIn m served w own station_events After old new s
