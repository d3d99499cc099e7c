-- Arrival through the guard. On the wire is also what the guard drops. A cooperating client does not see whether the link lost a datagram
-- or the guard dropped it.
use Rattle.std.specs.Prelude.{ℕ, ◌≡◌, All, Bool, false, List, [], ◌∷◌, ◌++◌, None}
use Rattle.uip_wire.specs.declared.addr.Addr.{Addr}
use Rattle.app_events.specs.Prelude.{AppSpec, AppState, IsAddr, IsPaged, IsU32, Pages}
use Rattle.tcp_machine.specs.Prelude.{Sockets}
use Rattle.uip_node.specs.Prelude.{AbstractNode, AnswersPolled, Event, Overlong, Periodic, event_of, initial_node, run}
use Rattle.node_laws.specs.Prelude.{Asker, AsksOverLoss, Progresses, TraceEntry, exchanges_with, trace_of}
use Rattle.segment_guard.specs.Verdict.{is_foreign}
use Rattle.guarded_node.specs.Arrivals.{Arrival, BringsBytes, events_at}
use Rattle.guarded_node.specs.Arrivals.Arrival.{Due, Received, TooLong}
use Rattle.guarded_node.specs.Guarded.{by_verdict}
use Rattle.guarded_node.specs.Verdicts.{verdict_on}
use Rattle.guarded_node.specs.Wire.{arriving}
use Rattle.guarded_node.specs.declared.guard.Rules.{Rules}
use Rattle.guarded_node.specs.declared.verdict.Verdict.{Verdict}
use Rattle.guarded_node.specs.declared.verdict.Verdict.TheVariants.{Drop, Pass, Displace}

-- The trace of an event on the wire, by the verdict. If it is dropped it came too, and nothing is sent.
abbrev pub trace_by : AppSpec → (ℕ → Bool) → AbstractNode → Event → Verdict → List TraceEntry
trace_by m served n event Drop = record { event = event; sent = None } ∷ []
trace_by m served n event Pass = trace_of m served (by_verdict n event Pass) n
trace_by m served n event (Displace slot) = trace_of m served (by_verdict n event (Displace slot)) n

-- The trace of an arrival on the wire. The numbers are those of the node.
abbrev pub trace_at : Rules → AppSpec → (ℕ → Bool) → AbstractNode → Arrival → List TraceEntry
trace_at rules m served n (Received bytes) =
    trace_by m served n (event_of n.addr (arriving rules.key bytes)) (verdict_on rules served n (arriving rules.key bytes))
trace_at rules m served n TooLong = trace_of m served (Overlong ∷ []) n
trace_at rules m served n (Due slot) = trace_of m served (Periodic slot ∷ []) n

-- What a guarded node gets: an arrival, or a change of the numbers of its application, as by a value that a caller sets.
pub data Coming : Type 0 where
  Comes : (arrival : Arrival) → Coming
  SetsNumbers : (change : List ℕ → List ℕ) → Coming

-- The trace of the wire for what comes in order.
abbrev pub wire_trace : Rules → AppSpec → (ℕ → Bool) → List Coming → AbstractNode → List TraceEntry
wire_trace rules m served [] n = []
wire_trace rules m served (Comes arrival ∷ more) n =
    trace_at rules m served n arrival ++ wire_trace rules m served more (run m served (events_at rules served n arrival) n).node
wire_trace rules m served (SetsNumbers change ∷ more) n = wire_trace rules m served more (record n { numbers = change n.numbers })

-- What is received consists of bytes, and numbers stay below 2^32.
abbrev pub FitsTypes : Coming → Type 0
FitsTypes (Comes arrival) = BringsBytes arrival
FitsTypes (SetsNumbers change) = (numbers : List ℕ) → All IsU32 numbers → All IsU32 (change numbers)

-- Every cooperating peer with an address that a host may have progresses in this trace of the wire, as `ArrivesIn` states it of the events
-- that the node takes.
abbrev pub ArrivesOnWire : AppSpec → Pages → Addr → List TraceEntry → Type 0
ArrivesOnWire m pages own trace =
    (a : Asker) (p : Sockets) (fine : ℕ → AppState → Bool) (left : AppState → ℕ) (texts patience : ℕ)
    → is_foreign p.peer own ≡ false → AnswersPolled m a.request a.mss fine left texts patience
    → (incarnation : List TraceEntry) → AsksOverLoss a p patience trace incarnation
    → Progresses pages a texts (exchanges_with p incarnation)

-- Arrival, of what comes on the wire: that the guard passes the next segment of a cooperating peer is no hypothesis.
abbrev pub ArrivesThroughGuard : Type 0
ArrivesThroughGuard =
    (m : AppSpec) (pages : Pages) → IsPaged m pages → (served : ℕ → Bool) (own : Addr) → IsAddr own → (numbers : List ℕ) → All IsU32 numbers
    → (rules : Rules) (comings : List Coming) → All FitsTypes comings
    → ArrivesOnWire m pages own (wire_trace rules m served comings (initial_node own numbers))
