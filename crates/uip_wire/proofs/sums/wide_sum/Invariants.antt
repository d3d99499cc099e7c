use Rattle.uip_wire.proofs.Wide.{Adding}
use Rattle.uip_wire.proofs.Prelude.{length}
use Rattle.uip_wire.proofs.sums.wide_sum.Given as goal

abbrev pub invariant-longs : goal.invariant-longs
invariant-longs l = Adding l.sum l.rest l.bytes

abbrev pub decreases-longs : goal.decreases-longs
decreases-longs l = length l.rest
