use Rattle.uip_device.proofs.Prelude.{◌≡◌, refl, take, true, CallsForDatagram, Due, datagram_sent}
use Rattle.uip_device.proofs.AnswerLaws.{answers_whole, over_part}
use Rattle.uip_device.proofs.SendLaws.{sends_taken}
use Rattle.uip_device.proofs.device.Device.periodic_datagram.Goals as goal

pub returns-clause-answers : goal.returns-clause-answers
returns-clause-answers g c =
    let old = c.args.self.now in
    let call = CallsForDatagram c.args.slot in
    let part = c.give_up.new.self in
    let taken = c.guarded_periodic-sent in
    let handed = take c.copy_sent.result c.copy_sent.new.out in
    over_part g.A.App call old part (record old { part = part; node = taken.new.node }) handed true refl c.give_up.ensures.kept c.give_up.ensures.spoils
    (answers_whole g.A.App call (record old { part = part }) old.guard taken.new.node handed c.give_up.ensures.free c.requires.none refl refl (λ before.
    sends_taken g.A.App (Due c.args.slot) old.guard old.guard old.node taken.new.node taken.result
    (λ own replies. handed ≡ datagram_sent old.guard.rules.key own replies)
    taken.ensures.takes refl (λ n h. refl) (λ own replies is. c.copy_sent.ensures.bytes old.guard.rules.key own replies is)))
