use Rattle.uip_slip.proofs.Prelude.{arith}
use Rattle.uip_slip.proofs.Lanes.{prefix_alone, prefix_plain, window}
use Rattle.uip_slip.proofs.marks.plain_of_many.Goals as goal

pub returns-then-prefix-lt-LANES : goal.returns-then-prefix-lt-LANES
returns-then-prefix-lt-LANES c = prefix_alone c.args.bytes.now 32 c.plain_lanes-prefix.result (omega arith)
    c.plain_lanes-prefix.ensures.count c.if-prefix-lt-LANES.true

pub plain_after-requires-clause-prefix : goal.plain_after-requires-clause-prefix
plain_after-requires-clause-prefix c = λ k h.
    let f = window c.args.bytes.now 0 32 c.plain_lanes-prefix.result (omega arith) c.plain_lanes-prefix.ensures.count in
    prefix_plain c.args.bytes.now 32 c.plain_lanes-prefix.result f k (omega (arith, h))
