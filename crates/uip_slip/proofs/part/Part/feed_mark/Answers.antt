use Rattle.uip_slip.proofs.Prelude.{reported_by, rules, state_in}
use Rattle.uip_slip.proofs.DecoderLaws.{run_then_byte, take_first}
use Rattle.uip_slip.proofs.part.Part.feed_mark.Goals as goal

pub returns-in-More-clause-fed : goal.returns-in-More-clause-fed
returns-in-More-clause-fed c =
    let bytes = c.args.bytes.now in
    let mid = state_in c.feed.new.area c.feed.new.self in
    let new = state_in c.feed-in-More.new.area c.feed-in-More.new.self in
    record {
      some = search rules;
      within = search rules;
      frames = λ before f.
          run_then_byte before bytes 1 (state_in c.args.area.now c.args.self.now) mid new (reported_by c.feed-in-More.result new) c.if-bytes-gt1.true
          (λ h. rw (take_first bytes c.requires.some) (c.in-More.ensures.frames before h)) c.feed-in-More.ensures.frames f;
      leaves = search rules;
      end = c.feed-in-More.ensures.end;
    }
