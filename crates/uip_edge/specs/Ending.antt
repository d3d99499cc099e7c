-- How a line ends, and which items were taken, up to a number of them.
use Rattle.std.specs.Prelude.{◌≡◌, ◌<◌, ◌≤◌, ℕ, List, Option, length}
use Rattle.std.specs.Io.KnownBytes.{Appends}
use Rattle.uip_edge.specs.declared.item.Item.{Item}
use Rattle.uip_edge.specs.declared.serve_end.ServeEnd.{ServeEnd}
use Rattle.uip_edge.specs.declared.serve_end.ServeEnd.TheVariants as ends
use Rattle.uip_edge.specs.Causes.{Rose}
use Rattle.uip_edge.specs.Coming.{TookAll}
use Rattle.uip_edge.specs.Views.{LineView}
use Rattle.uip_edge.specs.Writing.{AppendsPrefix}

-- The cause of each end of a call that took these items, at most n of them.
abbrev pub EndsBy : ℕ → LineView → LineView → List Item → ServeEnd → Type 0
EndsBy n old new taken ends.End =
    TookAll old.link.coming taken × (length taken < n) × (new.link.faults ≡ old.link.faults) × (new.sink.faults ≡ old.sink.faults)
EndsBy n old new taken ends.Budget = (length taken ≡ n) × (new.link.faults ≡ old.link.faults) × (new.sink.faults ≡ old.sink.faults)
EndsBy n old new taken ends.LinkFault =
    (length taken < n) × Rose old.link.faults new.link.faults × (new.sink.faults ≡ old.sink.faults)
EndsBy n old new taken ends.WriteFault =
    (length taken ≤ n) × (new.link.faults ≡ old.link.faults) × Rose old.sink.faults new.sink.faults

-- This text was written, or a prefix of it if a write failed.
abbrev pub WrittenBy : ServeEnd → Option (List ℕ) → Option (List ℕ) → List ℕ → Type 0
WrittenBy ends.WriteFault old new text = AppendsPrefix old new text
WrittenBy _ old new text = Appends old new text
