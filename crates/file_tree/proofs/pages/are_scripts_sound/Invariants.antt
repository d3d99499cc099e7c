use Rattle.file_tree.proofs.FitLemmas.{AreSoundTo}
use Rattle.file_tree.proofs.pages.are_scripts_sound.Given as goal

abbrev pub invariant-loop-index : goal.invariant-loop-index
invariant-loop-index g l = AreSoundTo g.F.Calls.calling l.image l.files l.index
