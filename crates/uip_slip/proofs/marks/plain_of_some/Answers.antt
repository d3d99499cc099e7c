use Rattle.uip_slip.proofs.Prelude.{◌+◌, ◌-◌, length, arith}
use Rattle.uip_slip.proofs.Lanes.{all_plain, prefix_alone, prefix_plain, none_before, window}
use Rattle.uip_slip.proofs.marks.plain_of_some.Goals as goal

pub returns-then-prefix : goal.returns-then-prefix
returns-then-prefix g c = prefix_alone c.args.bytes.now g.row.N c.plain_lanes-prefix.result (omega arith) c.plain_lanes-prefix.ensures.count c.if-prefix.true

pub returns : goal.returns
returns g c =
    let last = length c.args.bytes.now - g.row.N in
    let f = window c.args.bytes.now 0 g.row.N c.plain_lanes-prefix.result (omega arith) c.plain_lanes-prefix.ensures.count in
    let w = window c.args.bytes.now last g.row.N c.plain_lanes.result (omega arith) c.plain_lanes.ensures.count in
    record {
      within = omega (arith, w.le);
      plain = all_plain c.args.bytes.now (last + c.plain_lanes.result) (omega (arith, w.le))
          (none_before c.args.bytes.now last g.row.N c.plain_lanes.result w (λ k h. prefix_plain c.args.bytes.now g.row.N
          c.plain_lanes-prefix.result f k (omega (arith, h))));
      marked = λ h. w.stops (omega (arith, h));
    }
