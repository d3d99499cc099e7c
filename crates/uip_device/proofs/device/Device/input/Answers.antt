use Rattle.uip_device.proofs.Prelude.{◌≡◌, refl, take, true, Inputs, Received, datagram_sent}
use Rattle.uip_device.proofs.AnswerLaws.{answers_whole, over_part}
use Rattle.uip_device.proofs.SendLaws.{sends_taken}
use Rattle.uip_device.proofs.device.Device.input.Goals as goal

pub returns-clause-answers : goal.returns-clause-answers
returns-clause-answers g c =
    let old = c.args.self.now in
    let call = Inputs c.args.datagram.now in
    let part = c.give_up.new.self in
    let taken = c.guarded_input-sent in
    let handed = take c.copy_sent.result c.copy_sent.new.out in
    over_part g.A.App call old part (record old { part = part; guard = taken.new.guard; node = taken.new.node }) handed true refl
    c.give_up.ensures.kept c.give_up.ensures.spoils
    (answers_whole g.A.App call (record old { part = part }) taken.new.guard taken.new.node handed c.give_up.ensures.free c.requires.none refl refl (λ before.
    sends_taken g.A.App (Received c.args.datagram.now) old.guard taken.new.guard old.node taken.new.node taken.result
    (λ own replies. handed ≡ datagram_sent old.guard.rules.key own replies)
    taken.ensures.takes taken.ensures.rules taken.ensures.counts (λ own replies is. c.copy_sent.ensures.bytes old.guard.rules.key own replies is)))
