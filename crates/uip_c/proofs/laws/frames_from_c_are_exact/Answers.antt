use Rattle.uip_c.proofs.FrameLaws.{f_frames, f_represents}
use Rattle.uip_c.proofs.laws.frames_from_c_are_exact.Goals as goal

pub returns : goal.returns
returns c = record { frames = f_frames; represented = f_represents }
