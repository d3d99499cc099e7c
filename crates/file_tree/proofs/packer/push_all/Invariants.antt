use Rattle.file_tree.proofs.Prelude.{listed}
use Rattle.file_tree.proofs.PackLemmas.{Packs}
use Rattle.file_tree.proofs.packer.push_all.Given as goal

abbrev pub invariant-loop-entry : goal.invariant-loop-entry
invariant-loop-entry l = Packs (listed l.list) l.entry-index l.draft.image.items l.draft.files.items l.draft.order.items
