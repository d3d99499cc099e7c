use Rattle.file_tree.proofs.MeasureLemmas.{Measuring}
use Rattle.file_tree.proofs.pages.measure.Given as goal

abbrev pub invariant-loop-index : goal.invariant-loop-index
invariant-loop-index l = Measuring l.image l.fn.files l.files l.order l.index
