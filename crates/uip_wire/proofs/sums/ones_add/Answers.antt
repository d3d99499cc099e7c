use Rattle.uip_wire.proofs.Prelude.{◌+◌, ◌≤◌, ◌<◌, arith}
use Rattle.uip_wire.proofs.Folding.{folded_pos, folded_small}
use Rattle.uip_wire.proofs.sums.ones_add.Goals as goal

pub returns-then-sum-gt65535 : goal.returns-then-sum-gt65535
returns-then-sum-gt65535 c =
    let some : 0 < c.args.one + c.args.other = omega arith in
    let value = folded_pos (c.args.one + c.args.other) some in
    omega (arith, value)

pub returns-else-sum-gt65535 : goal.returns-else-sum-gt65535
returns-else-sum-gt65535 c =
    let small : c.args.one + c.args.other ≤ 65535 = omega arith in
    let value = folded_small (c.args.one + c.args.other) small in
    omega (arith, value)
