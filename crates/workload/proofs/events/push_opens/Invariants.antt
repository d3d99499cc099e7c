use Rattle.workload.proofs.Prelude.{◌≡◌, ◌++◌, map, range_with_len, Opens}
use Rattle.workload.proofs.events.push_opens.Given as goal

abbrev pub invariant-loop-place : goal.invariant-loop-place
invariant-loop-place l = l.events.items ≡ l.fn.events.items ++ map (λ k. Opens k) (range_with_len 1 l.place)
