-- What one turn at a line takes, and how it ends.
use Rattle.std.specs.Prelude.{◌≡◌, ◌<◌, ◌≤◌, ℕ, List, [], length, ⊤}
use Rattle.uip_edge.specs.declared.item.Item.{Item}
use Rattle.uip_edge.specs.declared.serve_end.ServeEnd.{ServeEnd}
use Rattle.uip_edge.specs.declared.serve_end.ServeEnd.TheVariants as ends
use Rattle.uip_edge.specs.declared.turn.Turn.{Turn}
use Rattle.uip_edge.specs.declared.turn.Turn.TheVariants as turns
use Rattle.uip_edge.specs.Causes.{Rose}
use Rattle.uip_edge.specs.Coming.{TookAll}
use Rattle.uip_edge.specs.Views.{IsCalm, LineView}

-- P holds of the number of items that a turn took, unless it ended.
abbrev pub IfTook : {E : Type 0} → Turn E → (ℕ → Type 0) → Type 0
IfTook (turns.Took n) P = P n
IfTook (turns.Ended end) P = ⊤

-- A turn takes at least one item, and no more than there is room for.
abbrev pub TurnFits : {E : Type 0} → Turn E → ℕ → Type 0
TurnFits turn room = IfTook turn (λ n. (0 < n) × (n ≤ room))

-- The cause of the result of a turn that took these items.
abbrev pub TurnsBy : LineView → LineView → List Item → Turn ServeEnd → Type 0
TurnsBy old new items (turns.Took n) = (length items ≡ n) × IsCalm old new
TurnsBy old new items (turns.Ended ends.End) = (items ≡ []) × TookAll old.link.coming [] × IsCalm old new
TurnsBy old new items (turns.Ended ends.LinkFault) =
    (items ≡ []) × Rose old.link.faults new.link.faults × (new.sink.faults ≡ old.sink.faults)
TurnsBy old new items (turns.Ended ends.WriteFault) = (new.link.faults ≡ old.link.faults) × Rose old.sink.faults new.sink.faults
TurnsBy old new items (turns.Ended ends.Budget) = ⊥
