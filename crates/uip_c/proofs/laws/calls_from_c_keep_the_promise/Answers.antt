use Rattle.uip_c.proofs.HandleLaws.{c_keeps}
use Rattle.uip_c.proofs.laws.calls_from_c_keep_the_promise.Goals as goal

pub returns : goal.returns
returns c = λ site loaded image sound own is key all bytes old new ready did. c_keeps site loaded image sound own is key all bytes old new ready did
