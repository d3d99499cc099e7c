use Rattle.uip_c.proofs.FrameLaws.{f_keeps}
use Rattle.uip_c.proofs.laws.frames_from_c_keep_the_promise.Goals as goal

pub returns : goal.returns
returns c = λ site loaded image sound own is mac network key all bytes old new ready did. f_keeps site loaded image sound own is mac network
    key all bytes old new ready did
