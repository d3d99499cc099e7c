use Rattle.uip_device.proofs.Prelude.{◌∙◌, ap, sym, refl, take, [], datagram_in, text_to_come}
use Rattle.uip_device.proofs.AnswerLaws.{answers_on}
use Rattle.uip_device.proofs.device.Device.drain.Goals as goal

pub returns-in-None-clause-answers : goal.returns-in-None-clause-answers
returns-in-None-clause-answers g c = answers_on g.A.App c.args.self.now c.args.self.now.left [] refl

pub returns-in-Some-clause-answers : goal.returns-in-Some-clause-answers
returns-in-Some-clause-answers g c =
    let old = c.args.self.now in
    answers_on g.A.App old c.hand_on-written.result.left (take c.hand_on-written.result.wrote c.hand_on-written.new.out)
    (ap (λ l. text_to_come (datagram_in old.node.packet) l) c.in-Some.is ∙ sym c.hand_on-written.ensures.text)
