-- The steps of a node's line: events, and between them changes of its application's numbers, as by values that a caller sets.
use Rattle.node_laws.proofs.Prelude.{All, ◌≡◌, ℕ, Bool, List, [], ◌∷◌, ◌++◌, map, refl, ap, ◌∙◌, All-cons, All-head, All-nil, All-tail}
use Rattle.node_laws.proofs.Prelude.{IsU32, AppSpec, Addr, Event, IsEvent, AbstractNode, run, step, TraceEntry, trace_of, IsOfLine, None}
use Rattle.node_laws.proofs.GoodNodes.{Good}
use Rattle.node_laws.proofs.Wire.{line_wire, wire_event}

pub data LineStep : Type 0 where
  OfNode : (event : Event) → LineStep
  Changes : (change : List ℕ → List ℕ) → LineStep

-- the event is of a line, or the change leaves numbers of 32 bits such
abbrev pub IsStep : Addr → LineStep → Type 0
IsStep own (OfNode event) = IsOfLine own event
IsStep own (Changes change) = (numbers : List ℕ) → All IsU32 numbers → All IsU32 (change numbers)

abbrev pub changed : (List ℕ → List ℕ) → AbstractNode → AbstractNode
changed change n = record n { numbers = change n.numbers }

module _ (m : AppSpec) (served : ℕ → Bool) where
  -- the turns of the events
  abbrev pub trace_over : List LineStep → AbstractNode → List TraceEntry
  trace_over [] n = []
  trace_over (OfNode event ∷ steps) n =
      record { event = event; sent = (step m served n event).sent } ∷ trace_over steps (step m served n event).node
  trace_over (Changes change ∷ steps) n = trace_over steps (changed change n)

  -- where nothing is changed
  pub turns_happen : (events : List Event) (n : AbstractNode) → trace_over (map OfNode events) n ≡ trace_of m served events n
  turns_happen [] n = refl
  turns_happen (e ∷ es) n = ap (λ l. record { event = e; sent = (step m served n e).sent } ∷ l) (turns_happen es (step m served n e).node)

  -- events, and then other steps
  pub turns_then : (events : List Event) (steps : List LineStep) (n : AbstractNode)
      → trace_over (map OfNode events ++ steps) n ≡ trace_of m served events n ++ trace_over steps (run m served events n).node
  turns_then [] steps n = refl
  turns_then (e ∷ es) steps n = ap (λ l. record { event = e; sent = (step m served n e).sent } ∷ l) (turns_then es steps (step m served n e).node)

pub all_happen : (own : Addr) (events : List Event) → All (IsOfLine own) events → All (IsStep own) (map OfNode events)
all_happen own [] of = All-nil (IsStep own)
all_happen own (e ∷ es) of =
    All-cons (IsStep own) (OfNode e) (map OfNode es) (All-head (IsOfLine own) e es of) (all_happen own es (All-tail (IsOfLine own) e es of))

-- the steps of the first entries of a trace
pub record Cut (m : AppSpec) (served : ℕ → Bool) (own : Addr) (n : AbstractNode) (front : List TraceEntry) : Type 0 where
  pub steps : List LineStep
  pub are : All (IsStep own) steps
  pub turns : trace_over m served steps n ≡ front

pub cut : (m : AppSpec) (served : ℕ → Bool) (own : Addr) (steps : List LineStep) (n : AbstractNode) (front rest : List TraceEntry)
    → All (IsStep own) steps → trace_over m served steps n ≡ front ++ rest → Cut m served own n front
cut m served own steps n [] rest of e = record { steps = []; are = All-nil (IsStep own); turns = refl }
cut m served own [] n (t ∷ front) rest of e = absurd (cc)
cut m served own (Changes change ∷ steps) n (t ∷ front) rest of e =
    let more = cut m served own steps (changed change n) (t ∷ front) rest (All-tail (IsStep own) (Changes change) steps of) e in
    record {
      steps = Changes change ∷ more.steps;
      are = All-cons (IsStep own) (Changes change) more.steps
          (All-head (IsStep own) (Changes change) steps of) more.are;
      turns = more.turns;
    }
cut m served own (OfNode event ∷ steps) n (t ∷ front) rest of e =
    let turn : TraceEntry = record { event = event; sent = (step m served n event).sent } in
    let head : turn ≡ t = cc in
    let tail : trace_over m served steps (step m served n event).node ≡ front ++ rest = cc in
    let more = cut m served own steps (step m served n event).node front rest (All-tail (IsStep own) (OfNode event) steps of) tail in
    record {
      steps = OfNode event ∷ more.steps;
      are = All-cons (IsStep own) (OfNode event) more.steps (All-head (IsStep own) (OfNode event) steps of) more.are;
      turns = ap (λ (l : List TraceEntry). turn ∷ l) more.turns ∙ ap (λ (z : TraceEntry). z ∷ front) head;
    }

-- the first of some steps
pub event_first : (own : Addr) (e : Event) (steps : List LineStep) → All (IsStep own) (OfNode e ∷ steps) → IsEvent e
event_first own e steps of = wire_event e (line_wire own e (All-head (IsStep own) (OfNode e) steps of))

-- a node whose application's numbers are changed is as good
pub changed_good : (own : Addr) (change : List ℕ → List ℕ) (steps : List LineStep) (n : AbstractNode)
    → All (IsStep own) (Changes change ∷ steps) → Good n → Good (changed change n)
changed_good own change steps n of good = record {
  single = good.single;
  fit = record { size = good.fit.size; conns = good.fit.conns; numbers = (All-head (IsStep own) (Changes change) steps of) n.numbers good.fit.numbers };
}

-- ---- a guard before the node

-- An event of the node, a change of its application's numbers, or an event that a guard before the node drops.
pub data WireStep : Type 0 where
  OnNode : (event : Event) → WireStep
  Sets : (change : List ℕ → List ℕ) → WireStep
  Drops : (event : Event) → WireStep

-- a step with no guard
abbrev pub unguarded : LineStep → WireStep
unguarded (OfNode event) = OnNode event
unguarded (Changes change) = Sets change

module _ (m : AppSpec) (served : ℕ → Bool) where
  -- the turns of all events, also of those that are dropped
  abbrev pub trace_on_wire : List WireStep → AbstractNode → List TraceEntry
  trace_on_wire [] n = []
  trace_on_wire (OnNode event ∷ steps) n =
      record { event = event; sent = (step m served n event).sent } ∷ trace_on_wire steps (step m served n event).node
  trace_on_wire (Sets change ∷ steps) n = trace_on_wire steps (changed change n)
  trace_on_wire (Drops event ∷ steps) n = record { event = event; sent = None } ∷ trace_on_wire steps n

  abbrev pub node_on_wire : List WireStep → AbstractNode → AbstractNode
  node_on_wire [] n = n
  node_on_wire (OnNode event ∷ steps) n = node_on_wire steps (step m served n event).node
  node_on_wire (Sets change ∷ steps) n = node_on_wire steps (changed change n)
  node_on_wire (Drops event ∷ steps) n = node_on_wire steps n

  pub same_turns : (steps : List LineStep) (n : AbstractNode) → trace_on_wire (map unguarded steps) n ≡ trace_over m served steps n
  same_turns [] n = refl
  same_turns (OfNode e ∷ steps) n = ap (λ l. record { event = e; sent = (step m served n e).sent } ∷ l) (same_turns steps (step m served n e).node)
  same_turns (Changes change ∷ steps) n = same_turns steps (changed change n)
