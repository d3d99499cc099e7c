use Rattle.uip_device.proofs.Prelude.{map, take, Byte, arrivals_after, datagram_in, left_text_of, text_to_come}
use Rattle.uip_device.proofs.AnswerLaws.{none_left}
use Rattle.uip_device.proofs.SendLaws.{on_line}
use Rattle.uip_device.proofs.device.Device.feed.Goals as goal

pub returns-clause-answers : goal.returns-clause-answers
returns-clause-answers g c =
    let old = c.args.self.now in
    let taken = c.take-taken.result in
    let new = c.take-taken.new.node in
    record {
      input = c.take-taken.ensures.fed;
      sends = λ before fed.
          on_line g.A.App (arrivals_after 0 before (map Byte (take taken.count c.args.bytes.now))) old.guard c.take-taken.new.guard old.node
          new (left_text_of old)
          (take taken.written.wrote c.take-taken.new.out) (text_to_come (datagram_in new.packet) taken.written.left) (none_left old c.requires.none)
          (c.take-taken.ensures.sends before fed);
    }
