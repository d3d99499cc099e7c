-- The guarantee for a node with this application alone, over events and the messages that the program writes between them.
use Rattle.std.specs.Prelude.{◌∷◌, [], All, Bool, List, ℕ}
use Rattle.app_events.specs.Prelude.{IsAddr, IsByte, IsU32}
use Rattle.uip_wire.specs.declared.addr.Addr.{Addr}
use Rattle.uip_node.specs.Prelude.{AbstractNode, Event, initial_node, step}
use Rattle.node_laws.specs.Prelude.{IsOfLine, IsDecoded, TraceConforms, TraceEntry}
use Rattle.own_app.specs.OwnLines.{own_output_model}
use Rattle.own_app.specs.OwnSpec.{PlainMessage, own_spec, write_message}

pub data OwnStep : Type 0 where
  Happens : (event : Event) → OwnStep
  Writes : (message : PlainMessage) → OwnStep

-- the numbers of a message fit their types
pub record IsMessage (message : PlainMessage) : Type 0 where
  pub to : IsU32 message.to
  pub number : IsU32 message.number
  pub taken : IsU32 message.taken
  pub text : All IsByte message.text

abbrev pub IsOwnStep : Addr → OwnStep → Type 0
IsOwnStep own (Happens event) = IsOfLine own event
IsOwnStep own (Writes message) = IsMessage message

abbrev pub with_written : PlainMessage → AbstractNode → AbstractNode
with_written message n = record n { numbers = write_message message n.numbers }

-- the trace of the events, the oldest first
abbrev pub own_trace : (ℕ → Bool) → List OwnStep → AbstractNode → List TraceEntry
own_trace served [] n = []
own_trace served (Happens event ∷ steps) n =
    record { event = event; sent = (step own_spec served n event).sent } ∷ own_trace served steps (step own_spec served n event).node
own_trace served (Writes message ∷ steps) n = own_trace served steps (with_written message n)

-- Whatever events come, and whatever is written between them: the trace conforms, and each segment is read by its peer.
abbrev pub OwnTraceConforms : Type 0
OwnTraceConforms =
    (served : ℕ → Bool) (own : Addr) → IsAddr own → (numbers : List ℕ) → All IsU32 numbers
    → (steps : List OwnStep) → All (IsOwnStep own) steps
    → TraceConforms own_output_model served (own_trace served steps (initial_node own numbers))
    × All (IsDecoded own) (own_trace served steps (initial_node own numbers))
