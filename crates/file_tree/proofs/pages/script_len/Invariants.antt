use Rattle.file_tree.proofs.Prelude.{◌-◌, length, files_in}
use Rattle.file_tree.proofs.ScriptLemmas.{Measures}
use Rattle.file_tree.proofs.pages.script_len.Given as goal

abbrev pub invariant-loop-found : goal.invariant-loop-found
invariant-loop-found g l = Measures g.F.Calls.calling (files_in l.image l.files) l.script l.at l.sum

abbrev pub decreases-loop-found : goal.decreases-loop-found
decreases-loop-found g l = length l.script - l.at
