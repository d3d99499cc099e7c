use Rattle.file_tree.proofs.Prelude.{files_of, upgraded}
use Rattle.file_tree.proofs.UpgradeLemmas.{Upgrades}
use Rattle.file_tree.proofs.upgrader.push_new_files.Given as goal

abbrev pub invariant-loop-number : goal.invariant-loop-number
invariant-loop-number l = Upgrades (upgraded l.words (files_of l.site)) l.number l.image.items l.files.items
