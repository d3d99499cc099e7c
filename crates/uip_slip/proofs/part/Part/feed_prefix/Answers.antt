use Rattle.uip_slip.proofs.Prelude.{◌∙◌, append-nil, arith, rules, frames, state_in}
use Rattle.uip_slip.proofs.DecoderLaws.{ends_on, fed_on, fed_run}
use Rattle.uip_slip.proofs.part.Part.feed_prefix.Goals as goal

pub returns-then-count-bytes : goal.returns-then-count-bytes
returns-then-count-bytes c =
    let run = c.join_plain-count.ensures in
    record {
      long = search rules;
      fed = record {
        some = search rules;
        within = run.within;
        frames = λ before f.
            fed_run before c.args.bytes.now c.join_plain-count.result (state_in c.args.area.now c.args.self.now)
            (state_in c.args.area.now c.reopen.new.self) (state_in c.join_plain-count.new.area c.join_plain-count.new.self)
            (c.reopen.ensures c.args.area.now) run.plain run.waiting run.joined f;
        leaves = search rules;
        end = search rules;
      };
    }

pub returns : goal.returns
returns c =
    let run = c.join_plain-count.ensures in
    let mark = c.feed_mark-mark.ensures.fed in
    let n = c.join_plain-count.result in
    record {
      long = search rules;
      fed = record {
        some = omega (arith, mark.some);
        within = search rules;
        frames = λ before f.
            let one = fed_run before c.args.bytes.now n (state_in c.args.area.now c.args.self.now)
            (state_in c.args.area.now c.reopen.new.self) (state_in c.join_plain-count.new.area c.join_plain-count.new.self)
            (c.reopen.ensures c.args.area.now) run.plain run.waiting run.joined f in
            fed_on before c.args.bytes.now n c.feed_mark-mark.result.count
            (state_in c.join_plain-count.new.area c.join_plain-count.new.self) (state_in c.feed_mark-mark.new.area c.feed_mark-mark.new.self) _
            (one.0, one.1 ∙ append-nil (frames before)) mark.frames;
        leaves = mark.leaves;
        end = ends_on c.args.bytes.now n c.feed_mark-mark.result.count c.feed_mark-mark.result.fed mark.some mark.within mark.end;
      };
    }
