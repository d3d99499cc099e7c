-- The trace of a node, by its definition.
use Rattle.std.specs.Prelude.{ℕ, Bool, List, [], ◌∷◌}
use Rattle.app_events.specs.Prelude.{AppSpec}
use Rattle.uip_node.specs.Prelude.{Event, AbstractNode, step}
use Rattle.node_laws.specs.Traces.{TraceEntry}

-- the trace of a node over these events, the oldest first
abbrev pub trace_of : AppSpec → (ℕ → Bool) → List Event → AbstractNode → List TraceEntry
trace_of m served [] n = []
trace_of m served (e ∷ es) n = record { event = e; sent = (step m served n e).sent } ∷ trace_of m served es (step m served n e).node
