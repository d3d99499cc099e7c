use Rattle.workload.proofs.Prelude.{◌≡◌, take, numbered_from}
use Rattle.workload.proofs.events.lines_from.Given as goal

abbrev pub invariant-loop-place : goal.invariant-loop-place
invariant-loop-place l = l.lines.items ≡ numbered_from l.first (take l.place l.events)
