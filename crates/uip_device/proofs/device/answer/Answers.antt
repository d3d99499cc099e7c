use Rattle.uip_device.proofs.Prelude.{◌≡◌, ◌++◌, sym, take, datagram_in, text_sent, text_to_come, Received}
use Rattle.uip_device.proofs.SendLaws.{sends_taken}
use Rattle.uip_device.proofs.device.answer.Goals as goal

pub returns-clause-sends : goal.returns-clause-sends
returns-clause-sends g c =
    let call = c.guarded_input_in_place-sent in
    let guard = c.args.guard.now in
    let text = take c.write_text.result.wrote c.write_text.new.out ++ text_to_come (datagram_in call.new.node.packet) c.write_text.result.left in
    sends_taken g.A.App (Received (take c.args.len c.args.node.now.packet.area)) guard call.new.guard c.args.node.now call.new.node call.result
    (λ own replies. text_sent guard.rules.key own replies ≡ text) call.ensures.takes call.ensures.rules call.ensures.counts
    (λ own replies is. sym (c.write_text.ensures.text guard.rules.key own replies is))
