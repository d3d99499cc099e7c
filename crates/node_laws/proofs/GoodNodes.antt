-- What every node satisfies that any events reach: no two connections of one peer, and numbers of their types.
use Rattle.node_laws.proofs.Prelude.{All, ℕ, Bool, List, ◌∷◌, length, subst, arith, All-head, Addr, AppState, AppSpec, IsSnapshot, IsU32}
use Rattle.node_laws.proofs.Prelude.{Connection, Event, IsEvent, AbstractNode, initial_node, step, IsSteady, Single, none_serves}
use Rattle.node_laws.proofs.Prelude.{all_closed, FitConn, FitNode, closed_fits, event_fits, Safe, IsOfLine}
use Rattle.node_laws.proofs.Lines.{comes}
use Rattle.node_laws.proofs.Wire.{line_wire, wire_event}

pub record Good (n : AbstractNode) : Type 0 where
  pub single : Single n.connections
  pub fit : FitNode n

pub good_on : (m : AppSpec) → IsSteady m → (ports : ℕ → Bool) (n : AbstractNode) (event : Event) → IsEvent event → Good n → Good (step m ports n event).node
good_on m steady ports n event is g = record {
  single = (comes m ports steady n event is g.single g.fit).single;
  fit = event_fits m steady ports n event is g.fit;
}

pub good_start : (own : Addr) (numbers : List ℕ) → All IsU32 numbers → Good (initial_node own numbers)
good_start own numbers words = record {
  single = λ q i j x y a b u v. absurd (let z = none_serves 10 q i x a in cc);
  fit = record { size = omega arith; conns = λ i x y. subst FitConn (all_closed 10 i x y) closed_fits; numbers = words };
}

-- the first of some events of a line
pub first_is : (own : Addr) (e : Event) (es : List Event) → All (IsOfLine own) (e ∷ es) → IsEvent e
first_is own e es l = wire_event e (line_wire own e (All-head (IsOfLine own) e es l))

-- no bound on the length of a text
abbrev pub AnyLength : ℕ → Type 0
AnyLength n = Unit {0}

pub low_text : (m : AppSpec) (q : AppState) → All IsSnapshot q.snapshots → AnyLength (length (m.output q))
low_text m q h = tt

abbrev pub SafeConn : (m : AppSpec) → IsSteady m → Connection → Type 0
SafeConn m steady c = Safe m steady AnyLength (low_text m) c
