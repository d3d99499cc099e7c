-- The views of the outside objects, at a value of a trait.
use Rattle.uip_edge.specs.declared.link.Link.{Ghosts as LinkGhosts}
use Rattle.uip_edge.specs.declared.shelf.Shelf.{Ghosts as ShelfGhosts}
use Rattle.uip_edge.specs.declared.sink.Sink.{Ghosts as SinkGhosts}
use Rattle.uip_edge.specs.Views.{LineView, LinkView, Outside, ShelfView, SinkView, WorkView, sink_with}

abbrev pub link_view : {L : Type 0} → LinkGhosts L → L → LinkView
link_view g link = record { coming = g.coming link; faults = g.faults link }

abbrev pub sink_view : {K : Type 0} → SinkGhosts K → K → SinkView
sink_view g sink = sink_with (g.written sink) (g.faults sink)

abbrev pub shelf_view : {H : Type 0} → ShelfGhosts H → H → ShelfView
shelf_view g shelf = record { held = g.held shelf; faults = g.faults shelf }

abbrev pub line_view : {L K : Type 0} → LinkGhosts L → SinkGhosts K → L → K → LineView
line_view l k link sink = record { link = link_view l link; sink = sink_view k sink }

abbrev pub work_view : {H K : Type 0} → ShelfGhosts H → SinkGhosts K → H → K → WorkView
work_view h k shelf sink = record { shelf = shelf_view h shelf; sink = sink_view k sink }

abbrev pub outside : {H L K : Type 0} → ShelfGhosts H → LinkGhosts L → SinkGhosts K → H → L → K → Outside
outside h l k shelf link sink = record { shelf = shelf_view h shelf; link = link_view l link; sink = sink_view k sink }
