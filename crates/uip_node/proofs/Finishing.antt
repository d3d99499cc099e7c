-- The snapshot at which an application is asked is the node's.
use Rattle.uip_node.proofs.Prelude.{ℕ, List, subst, AppSpec, Ghosts, Conn, Outcome, asked, Step, CountsRepresent, seen, ticks_of, Event}
use Rattle.uip_node.proofs.Prelude.{AbstractNode, snapshot, MeetsAt, snapshot_at, Counts}

pub finished : {A S : Type 0} (g : Ghosts A S) (k : g.Config) (m : AppSpec) (cs : List (Conn A)) (ns : List ℕ) (step : Step)
    (n : AbstractNode) (event : Event) (slot : ℕ) (o : Outcome) (counts : Counts) →
    CountsRepresent counts (seen event n.history) → MeetsAt g k cs ns step n.connections slot
    (asked m (snapshot_at counts.ticks counts.net n.connections slot) o) →
    MeetsAt g k cs ns step n.connections slot (asked m (snapshot n event slot) o)
finished g k m cs ns step n event slot o counts stand meets =
    subst (λ (net : List ℕ). MeetsAt g k cs ns step n.connections slot
    (asked m (snapshot_at (ticks_of (seen event n.history)) net n.connections slot) o)) stand.net
    (subst (λ (t : ℕ). MeetsAt g k cs ns step n.connections slot (asked m (snapshot_at t counts.net n.connections slot) o)) stand.ticks meets)
