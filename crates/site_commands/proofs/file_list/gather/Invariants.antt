use Rattle.site_commands.proofs.GatherLaws.{Gathering}
use Rattle.site_commands.proofs.file_list.gather.Given as goal

abbrev pub invariant-loop-named : goal.invariant-loop-named
invariant-loop-named g l = Gathering l.files l.named-index l.room l.list.items (g.H.Shelf.held l.fn.shelf) (g.H.Shelf.held l.shelf)
    (g.H.Shelf.faults l.fn.shelf) (g.H.Shelf.faults l.shelf)
