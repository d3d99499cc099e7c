-- The views of the outside objects: known content, and the fault count of each.
use Rattle.std.specs.Prelude.{◌≡◌, ℕ, List, Option}
use Rattle.uip_edge.specs.declared.item.Item.{Item}
use Rattle.uip_edge.specs.Causes.{IsUnfailed}
use Rattle.uip_edge.specs.Shelving.{Files}

-- A link: the items to come.
pub record LinkView : Type 0 where
  pub coming : Option (List Item)
  pub faults : ℕ

-- A sink: what was written.
pub record SinkView : Type 0 where
  pub written : Option (List ℕ)
  pub faults : ℕ

abbrev pub sink_with : Option (List ℕ) → ℕ → SinkView
sink_with written faults = record { written = written; faults = faults }

-- A shelf: its files.
pub record ShelfView : Type 0 where
  pub held : Option Files
  pub faults : ℕ

-- A line: what comes in and what goes out.
pub record LineView : Type 0 where
  pub link : LinkView
  pub sink : SinkView

-- What work on files reaches: their shelf, and its output.
pub record WorkView : Type 0 where
  pub shelf : ShelfView
  pub sink : SinkView

-- All that a run reaches: a shelf, and a line, whose sink is its output.
pub record Outside : Type 0 where
  pub shelf : ShelfView
  pub link : LinkView
  pub sink : SinkView

abbrev pub line_in : Outside → LineView
line_in all = record { link = all.link; sink = all.sink }

abbrev pub work_in : Outside → WorkView
work_in all = record { shelf = all.shelf; sink = all.sink }

-- No call of a line failed.
pub record LineUnfailed (old new : LineView) : Type 0 where
  pub link : IsUnfailed old.link.faults new.link.faults
  pub sink : IsUnfailed old.sink.faults new.sink.faults

-- No call of a shelf or its output failed.
pub record WorkUnfailed (old new : WorkView) : Type 0 where
  pub shelf : IsUnfailed old.shelf.faults new.shelf.faults
  pub sink : IsUnfailed old.sink.faults new.sink.faults

-- Neither fault count of a line rose.
pub record IsCalm (old new : LineView) : Type 0 where
  pub link : new.link.faults ≡ old.link.faults
  pub sink : new.sink.faults ≡ old.sink.faults
