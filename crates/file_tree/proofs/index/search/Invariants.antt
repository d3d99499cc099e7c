use Rattle.file_tree.proofs.Prelude.{◌-◌, files_in}
use Rattle.file_tree.proofs.SearchLemmas.{Searches}
use Rattle.file_tree.proofs.index.search.Given as goal

abbrev pub invariant-loop-low : goal.invariant-loop-low
invariant-loop-low l = Searches (files_in l.image l.files) l.order l.name l.low l.high

abbrev pub decreases-loop-low : goal.decreases-loop-low
decreases-loop-low l = l.high - l.low
