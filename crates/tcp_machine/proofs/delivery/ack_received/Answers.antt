-- Nothing is outstanding after the acknowledgement.
use Rattle.tcp_machine.proofs.Prelude.{rules}
use Rattle.tcp_machine.proofs.Transmission.{has_part_of, can_nothing_after}
use Rattle.tcp_machine.proofs.delivery.ack_received.Goals as goal

pub returns-clause-sound : goal.returns-clause-sound
returns-clause-sound g c = record {
  numbers = search rules;
  says = λ _.
      let can = can_nothing_after g.A.App.app_spec g.A.App.represents (g.A.App.config c.args.shared.now) c.args.conn.now.app c.acked.new.self
      (λ p. ((g.A.App.app_spec (g.A.App.config c.args.shared.now)).acked (g.A.App.numbers c.args.shared.now) p c.args.conn.now.len).part)
      c.acked.ensures.part (has_part_of g.A.App (g.A.App.config c.args.shared.now) c.args.conn.now c.requires.sound c.requires.open_to_it) in
      rw (c.clear_outstanding.ensures.rested.app, c.clear_outstanding.ensures.rested.len) can;
}
