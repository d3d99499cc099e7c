use Rattle.frame_device.proofs.Prelude.{ap, take, is_some}
use Rattle.frame_device.proofs.HereLaws.{none_sent, some_sent}
use Rattle.frame_device.proofs.device.write_sent.Goals as goal

pub returns-in-None-clause-text : goal.returns-in-None-clause-text
returns-in-None-clause-text g c = λ k acts wire own replies did is.
    none_sent (g.M.Frames.spec k) acts wire own replies c.args.sent c.args.node.now.packet c.in-None.is is

pub returns-in-Some-clause-text : goal.returns-in-Some-clause-text
returns-in-Some-clause-text g c = λ k acts wire own replies did is.
    some_sent (g.M.Frames.spec k) acts wire own replies c.args.sent c.args.node.now.packet (take c.wrap.result c.wrap.new.out)
    (ap (λ o. is_some o) c.in-Some.is)
    (rw c.packet.ensures.datagram at (c.wrap.ensures.text k acts did)) is
