use Rattle.file_tree.proofs.Prelude.{◌-◌, ◌+◌}
use Rattle.file_tree.proofs.LoadLemmas.{Loading}
use Rattle.file_tree.proofs.shelf_reader.read_file.Given as goal

abbrev pub invariant-loop-block : goal.invariant-loop-block
invariant-loop-block g l = Loading l.limit (g.H.Shelf.held l.fn.shelf) (g.H.Shelf.held l.shelf) (g.H.Shelf.faults l.fn.shelf)
    (g.H.Shelf.faults l.shelf) l.name l.bytes.items

abbrev pub decreases-loop-block : goal.decreases-loop-block
decreases-loop-block g l = (l.limit + 1) - l.bytes.len
