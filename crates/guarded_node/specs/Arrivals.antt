-- What arrives at a guarded node, the events that the node then takes, and what goes to the wire.
use Rattle.std.specs.Prelude.{ℕ, All, Bool, List, [], ◌∷◌, ◌++◌, Option, ⊤}
use Rattle.uip_wire.specs.declared.addr.Addr.{Addr}
use Rattle.app_events.specs.Prelude.{AppSpec, IsByte}
use Rattle.sip_hash.specs.declared.key.Key.{Key}
use Rattle.uip_node.specs.Prelude.{AbstractNode, Event, Overlong, Periodic, Ran, Reply, reply_bytes, run}
use Rattle.guarded_node.specs.Counts.{counted}
use Rattle.guarded_node.specs.Guarded.{guarded}
use Rattle.guarded_node.specs.Verdicts.{verdict_on}
use Rattle.guarded_node.specs.Wire.{arriving, leaving}
use Rattle.guarded_node.specs.declared.guard.GuardCounts.{GuardCounts}
use Rattle.guarded_node.specs.declared.guard.Rules.{Rules}

-- What arrives: a datagram of the wire, a frame that is too long, or the periodic call of a slot.
pub data Arrival : Type 0 where
  Received : (bytes : List ℕ) → Arrival
  TooLong : Arrival
  Due : (slot : ℕ) → Arrival

-- What is received consists of bytes.
abbrev pub BringsBytes : Arrival → Type 0
BringsBytes (Received bytes) = All IsByte bytes
BringsBytes TooLong = ⊤
BringsBytes (Due slot) = ⊤

-- The events that the node takes for it.
abbrev pub events_at : Rules → (ℕ → Bool) → AbstractNode → Arrival → List Event
events_at rules served n (Received bytes) = guarded rules served n bytes
events_at rules served n TooLong = Overlong ∷ []
events_at rules served n (Due slot) = Periodic slot ∷ []

-- What the guard counts for it.
abbrev pub counted_at : Rules → (ℕ → Bool) → AbstractNode → Arrival → GuardCounts → GuardCounts
counted_at rules served n (Received bytes) counts = counted (verdict_on rules served n (arriving rules.key bytes)) counts
counted_at rules served n TooLong counts = counts
counted_at rules served n (Due slot) counts = counts

-- The events for arrivals in order: those for each depend on the node before it.
abbrev pub guarded_events : Rules → AppSpec → (ℕ → Bool) → List Arrival → AbstractNode → List Event
guarded_events rules m served [] n = []
guarded_events rules m served (arrival ∷ arrivals) n =
    events_at rules served n arrival ++ guarded_events rules m served arrivals (run m served (events_at rules served n arrival) n).node

-- The node after them, and what it sent.
abbrev pub guarded_run : Rules → AppSpec → (ℕ → Bool) → List Arrival → AbstractNode → Ran
guarded_run rules m served arrivals n = run m served (guarded_events rules m served arrivals n) n

-- The counts of the guard after them.
abbrev pub guarded_counts : Rules → AppSpec → (ℕ → Bool) → List Arrival → AbstractNode → GuardCounts → GuardCounts
guarded_counts rules m served [] n counts = counts
guarded_counts rules m served (arrival ∷ arrivals) n counts =
    guarded_counts rules m served arrivals (run m served (events_at rules served n arrival) n).node (counted_at rules served n arrival counts)

-- The bytes on the wire of a reply.
abbrev pub wire_bytes : Option Key → Addr → Reply → List ℕ
wire_bytes key own reply = leaving key (reply_bytes own reply)
