use Rattle.workload.proofs.Prelude.{◌≡◌, map, range_with_len, client_of}
use Rattle.workload.proofs.maker.clients_of.Given as goal

abbrev pub invariant-loop-place : goal.invariant-loop-place
invariant-loop-place l = l.plans.items ≡ map client_of (range_with_len 1 l.place)
