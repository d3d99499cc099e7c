use Rattle.uip_slip.proofs.Prelude.{◌+◌, ◌-◌, length, arith}
use Rattle.uip_slip.proofs.Lanes.{all_plain, none_before, window}
use Rattle.uip_slip.proofs.marks.plain_after.Goals as goal

pub returns-then-count-lt-WIDE : goal.returns-then-count-lt-WIDE
returns-then-count-lt-WIDE c =
    let w = window c.args.bytes.now c.loop-at.at 64 c.plain_wide-count.result (omega arith) c.plain_wide-count.ensures.count in
    record {
      within = omega (arith, w.le);
      plain = all_plain c.args.bytes.now (c.loop-at.at + c.plain_wide-count.result) (omega (arith, w.le))
          (none_before c.args.bytes.now c.loop-at.at 64 c.plain_wide-count.result w c.loop-at.invariant);
      marked = λ h. w.stops c.if-count-lt-WIDE.true;
    }

pub loop-at-preserved : goal.loop-at-preserved
loop-at-preserved c = λ k h.
    let w = window c.args.bytes.now c.loop-at.at 64 c.plain_wide-count.result (omega arith) c.plain_wide-count.ensures.count in
    none_before c.args.bytes.now c.loop-at.at 64 c.plain_wide-count.result w c.loop-at.invariant k (omega (arith, h, w.le, c.if-count-lt-WIDE.false))

pub returns : goal.returns
returns c =
    let last = length c.args.bytes.now - 64 in
    let w = window c.args.bytes.now last 64 c.plain_wide.result (omega arith) c.plain_wide.ensures.count in
    record {
      within = omega (arith, w.le);
      plain = all_plain c.args.bytes.now (last + c.plain_wide.result) (omega (arith, w.le))
          (none_before c.args.bytes.now last 64 c.plain_wide.result w (λ k h. c.loop-at.invariant k (omega (arith, h))));
      marked = λ h. w.stops (omega (arith, h));
    }
