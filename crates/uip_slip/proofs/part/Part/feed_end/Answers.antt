use Rattle.uip_slip.proofs.Prelude.{refl, state_in}
use Rattle.uip_slip.proofs.DecoderLaws.{fed_end}
use Rattle.uip_slip.proofs.part.Part.feed_end.Goals as goal

pub returns-clause-frames : goal.returns-clause-frames
returns-clause-frames c = λ bytes f.
    let area = c.args.area.now in
    fed_end bytes (state_in area c.args.self.now) 192 _ _ refl f (rw (c.reopen.ensures area) at (c.close.ensures area c.requires.size))
