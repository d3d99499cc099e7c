-- What a pair owes the laws of a node's trace, and what its trace shows.
use Rattle.std.specs.Prelude.{if◌then◌else◌, ◌∷◌, [], All, Bool, false, List, map, true, ℕ}
use Rattle.app_events.specs.Prelude.{AppSpec, IsAddr, IsU32, Pages}
use Rattle.uip_wire.specs.declared.addr.Addr.{Addr}
use Rattle.uip_node.specs.Prelude.{AbstractNode, Event, IsSteady, SendsBytes, initial_node, step}
use Rattle.node_laws.specs.Prelude.{HasOutputModel, IsOfLine, IsDecoded, OutputModel, TraceConforms, TraceEntry}
use Rattle.node_laws.specs.Prelude.{Free, Interactive, Paged}
use Rattle.app_pair.specs.PairNumbers.{change_own}
use Rattle.app_pair.specs.PairSpec.{StaysAtPort, own_snapshot, pair_spec}

-- the pages of one of the two: those of the snapshots that it sees
abbrev pub own_pages : Bool → Pages → Pages
own_pages second pages = record {
  page = λ input snapshots. pages.page input (map (own_snapshot second) snapshots);
  complete = λ input snapshots. pages.complete input (map (own_snapshot second) snapshots);
}

abbrev pub own_model : Bool → OutputModel → OutputModel
own_model second (Paged pages) = Paged (own_pages second pages)
own_model second (Interactive sessions) = Interactive (own_pages second sessions)
own_model second Free = Free

-- At each port the output is that of the application there.
abbrev pub pair_model : (ℕ → Bool) → (ℕ → OutputModel) → (ℕ → OutputModel) → ℕ → OutputModel
pair_model second firsts seconds port = if second port then own_model true (seconds port) else own_model false (firsts port)

-- The application satisfies what the laws of a node's trace require of it, and can be one of a pair.
pub record SpeaksOnLines (m : AppSpec) (model : ℕ → OutputModel) : Type 0 where
  pub steady : IsSteady m
  pub bytes : SendsBytes m
  pub speaks : HasOutputModel m model
  pub port : StaysAtPort m

abbrev pub PairSpeaksOnLines : Type 0
PairSpeaksOnLines =
    (second : ℕ → Bool) (m n : AppSpec) (firsts seconds : ℕ → OutputModel) → SpeaksOnLines m firsts → SpeaksOnLines n seconds
    → SpeaksOnLines (pair_spec second m n) (pair_model second firsts seconds)

-- ---- traces

-- An event of a line, or between events a change of the numbers of one application, as by a value or a message of the program.
pub data PairStep : Type 0 where
  Happens : (event : Event) → PairStep
  Changes : (second : Bool) (change : List ℕ → List ℕ) → PairStep

abbrev pub IsPairStep : Addr → PairStep → Type 0
IsPairStep own (Happens event) = IsOfLine own event
IsPairStep own (Changes second change) = (numbers : List ℕ) → All IsU32 numbers → All IsU32 (change numbers)

abbrev pub with_changed : Bool → (List ℕ → List ℕ) → AbstractNode → AbstractNode
with_changed second change n = record n { numbers = change_own second change n.numbers }

-- the trace of the events, the oldest first
abbrev pub pair_trace : AppSpec → (ℕ → Bool) → List PairStep → AbstractNode → List TraceEntry
pair_trace m served [] n = []
pair_trace m served (Happens event ∷ steps) n =
    record { event = event; sent = (step m served n event).sent } ∷ pair_trace m served steps (step m served n event).node
pair_trace m served (Changes second change ∷ steps) n = pair_trace m served steps (with_changed second change n)

-- Whatever events come, and whatever changes between them: the trace conforms, and each segment is read by its peer.
abbrev pub PairTraceConforms : Type 0
PairTraceConforms =
    (second : ℕ → Bool) (m n : AppSpec) (firsts seconds : ℕ → OutputModel) → SpeaksOnLines m firsts → SpeaksOnLines n seconds
    → (served : ℕ → Bool) (own : Addr) → IsAddr own → (numbers : List ℕ) → All IsU32 numbers
    → (steps : List PairStep) → All (IsPairStep own) steps
    → TraceConforms (pair_model second firsts seconds) served
    (pair_trace (pair_spec second m n) served steps (initial_node own numbers))
    × All (IsDecoded own) (pair_trace (pair_spec second m n) served steps (initial_node own numbers))
