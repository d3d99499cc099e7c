use Rattle.uip_slip.proofs.TextFrames.{frames-text}
use Rattle.uip_slip.proofs.encoder.text_is_one_frame.Goals as goal

pub returns : goal.returns
returns c = frames-text
