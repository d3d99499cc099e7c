-- The guarantee for a whole trace of a node, for any events of a line.
use Rattle.std.specs.Prelude.{All, Bool, List, ℕ}
use Rattle.uip_wire.specs.declared.addr.Addr.{Addr}
use Rattle.app_events.specs.Prelude.{AppSpec, Pages, IsPaged, IsAddr, IsU32}
use Rattle.tcp_machine.specs.Prelude.{Sockets}
use Rattle.uip_node.specs.Prelude.{Event, HasBytes, IsSteady, initial_node, SendsBytes}
use Rattle.node_laws.specs.Traces.{Exchange, TraceEntry, exchanges_with, IsIncarnationIn}
use Rattle.node_laws.specs.Promise.{IncarnationConforms, OutputModel}
use Rattle.node_laws.specs.Speakers.{HasOutputModel, at_every_port}
use Rattle.node_laws.specs.Asked.{IsEchoed, NothingUnsolicited, OpensServed}
use Rattle.node_laws.specs.Wire.{IsOfLine, IsDecoded}
use Rattle.node_laws.specs.Timers.{RetriesIn}
use Rattle.node_laws.specs.Turns.{trace_of}

-- Every incarnation of every connection conforms to the output model of its port. Nothing is sent unsolicited, and connections open only
-- at served ports. An echo reply answers the request of the same trace entry. What is outstanding is retransmitted, or the connection reset.
pub record TraceConforms (model : ℕ → OutputModel) (served : ℕ → Bool) (trace : List TraceEntry) : Type 0 where
  pub incarnations : (p : Sockets) (incarnation : List Exchange)
      → IsIncarnationIn (exchanges_with p trace) incarnation → IncarnationConforms (model p.own_port.0) incarnation
  pub asked : (p : Sockets) → NothingUnsolicited (exchanges_with p trace)
  pub ports : (p : Sockets) → OpensServed served p (exchanges_with p trace)
  pub echoes : All IsEchoed trace
  pub retries : RetriesIn trace

-- Every trace of a node conforms to the output model of its application, for any events of a line and every application that never retracts
-- output and sends bytes. Each peer that checks as the node does reads its segments as they were meant.
abbrev pub EveryTraceConforms : Type 0
EveryTraceConforms =
    (m : AppSpec) (model : ℕ → OutputModel) → IsSteady m → SendsBytes m → HasOutputModel m model
    → (served : ℕ → Bool) (own : Addr) → IsAddr own
    → (numbers : List ℕ) → All IsU32 numbers → (events : List Event) → All (IsOfLine own) events
    → TraceConforms model served (trace_of m served events (initial_node own numbers))
    × All (IsDecoded own) (trace_of m served events (initial_node own numbers))

-- Every trace conforms, for every application whose output is a page of bytes at every port.
abbrev pub EveryTraceOfPagesConforms : Type 0
EveryTraceOfPagesConforms =
    (m : AppSpec) (pages : Pages) → IsPaged m pages → HasBytes pages → (served : ℕ → Bool) (own : Addr) → IsAddr own
    → (numbers : List ℕ) → All IsU32 numbers → (events : List Event) → All (IsOfLine own) events
    → TraceConforms (at_every_port pages) served (trace_of m served events (initial_node own numbers))
    × All (IsDecoded own) (trace_of m served events (initial_node own numbers))
