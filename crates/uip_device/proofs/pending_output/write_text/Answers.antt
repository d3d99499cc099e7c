use Rattle.uip_device.proofs.Prelude.{◌++◌, ◌∙◌, ap, sym, take, is_some, datagram_in, text_to_come, rest_text}
use Rattle.uip_device.proofs.HandLaws.{sent_text}
use Rattle.uip_device.proofs.SendLaws.{silent_text}
use Rattle.uip_device.proofs.pending_output.write_text.Goals as goal

pub returns-in-None-clause-text : goal.returns-in-None-clause-text
returns-in-None-clause-text g c = λ key own replies is.
    rw c.nothing.ensures (sym (silent_text key own replies c.args.sent c.args.node.now.packet c.in-None.is is))

pub returns-in-Some-clause-text : goal.returns-in-Some-clause-text
returns-in-Some-clause-text g c = λ key own replies is.
    let packet = c.args.node.now.packet in
    let text = take c.write_on.result.wrote c.write_on.new.out ++ text_to_come (datagram_in packet) c.write_on.result.left in
    sent_text key own replies c.args.sent packet text (ap (λ o. is_some o) c.in-Some.is)
    ((rw c.packet.ensures.datagram at c.write_on.ensures.text) ∙ ap (λ l. l ++ rest_text (datagram_in packet)) c.put_end.ensures.text) is
