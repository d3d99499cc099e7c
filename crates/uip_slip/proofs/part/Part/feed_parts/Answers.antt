use Rattle.uip_slip.proofs.Prelude.{◌-◌, arith, drop, length, length-drop, length-take, rules, subst, Leaves, state_in}
use Rattle.uip_slip.proofs.DecoderLaws.{ends_on, fed_more, fed_on}
use Rattle.uip_slip.proofs.part.Part.feed_parts.Goals as goal

pub returns-in_default-clause-prefix : goal.returns-in_default-clause-prefix
returns-in_default-clause-prefix c = record {
  some = search rules;
  within = search rules;
  frames = λ before f.
      fed_on before c.args.bytes.now c.loop-count.count c.feed_part-prefix.result.count (state_in c.loop-count.area c.loop-count.self)
      (state_in c.feed_part-prefix.new.area c.feed_part-prefix.new.self) _
      (c.loop-count.invariant.frames before f) c.feed_part-prefix.ensures.fed.frames;
  leaves = search rules;
  end = ends_on c.args.bytes.now c.loop-count.count c.feed_part-prefix.result.count c.feed_part-prefix.result.fed c.feed_part-prefix.ensures.fed.some
      c.feed_part-prefix.ensures.fed.within c.feed_part-prefix.ensures.fed.end;
}

pub loop-count-preserved-then-not-is_alone : goal.loop-count-preserved-then-not-is_alone
loop-count-preserved-then-not-is_alone c =
    let s = (state_in c.feed_part-prefix.new.area c.feed_part-prefix.new.self) in
    let prefix = c.feed_part-prefix.ensures.fed in
    record {
      size = search rules;
      within = omega (
        arith,
        prefix.within,
        length-take (length c.args.bytes.now - c.loop-count.count)
            (drop c.loop-count.count c.args.bytes.now),
        length-drop c.loop-count.count c.args.bytes.now,
        c.loop-count.invariant.within,
      );
      leaves = λ _. subst (λ x. Leaves x s) c.in-More.is prefix.leaves;
      frames = λ before f.
          fed_more before c.args.bytes.now c.loop-count.count c.feed_part-prefix.result.count (state_in c.loop-count.area c.loop-count.self)
          s c.feed_part-prefix.result.fed
          c.in-More.is (c.loop-count.invariant.frames before f) prefix.frames;
    }

pub loop-count-preserved : goal.loop-count-preserved
loop-count-preserved c =
    let s = (state_in c.feed_part-prefix.new.area c.feed_part-prefix.new.self) in
    let prefix = c.feed_part-prefix.ensures.fed in
    record {
      size = search rules;
      within = omega (
        arith,
        prefix.within,
        length-take (length c.args.bytes.now - c.loop-count.count)
            (drop c.loop-count.count c.args.bytes.now),
        length-drop c.loop-count.count c.args.bytes.now,
        c.loop-count.invariant.within,
      );
      leaves = λ _. subst (λ x. Leaves x s) c.in-More.is prefix.leaves;
      frames = λ before f.
          fed_more before c.args.bytes.now c.loop-count.count c.feed_part-prefix.result.count (state_in c.loop-count.area c.loop-count.self)
          s c.feed_part-prefix.result.fed
          c.in-More.is (c.loop-count.invariant.frames before f) prefix.frames;
    }
