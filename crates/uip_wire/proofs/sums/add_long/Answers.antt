use Rattle.uip_wire.proofs.Prelude.{arith}
use Rattle.uip_wire.proofs.Folding.{folded_long}
use Rattle.uip_wire.proofs.sums.add_long.Goals as goal

pub returns-then-sum-one : goal.returns-then-sum-one
returns-then-sum-one c = folded_long c.args.one c.args.other (omega arith) (omega arith) c.if-sum-one.true
