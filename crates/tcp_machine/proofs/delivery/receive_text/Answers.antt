-- Delivered text retracts no text of the application.
use Rattle.tcp_machine.proofs.Prelude.{rules}
use Rattle.tcp_machine.proofs.Transmission.{has_part_of, can_supply_received}
use Rattle.tcp_machine.proofs.delivery.receive_text.Goals as goal

pub deliver-requires : goal.deliver-requires
deliver-requires g c = has_part_of g.A.App (g.A.App.config c.args.shared.now) c.args.conn.now c.requires.sound c.requires.open_to_it

pub returns-clause-sound : goal.returns-clause-sound
returns-clause-sound g c = record {
  numbers = search rules;
  says = λ _.
      let can = can_supply_received g.A.App.app_spec g.A.App.represents (g.A.App.config c.args.shared.now) c.args.conn.now.app c.deliver.new.app
      (g.met.A.App.lawful c.args.conn.now.app (g.A.App.config c.args.shared.now)) (g.A.App.numbers c.args.shared.now) c.args.piece.now c.args.conn.now.len
      c.deliver.ensures.part (c.requires.sound.says c.requires.open_to_it) in
      rw (c.set_window.ensures.kept.app, c.set_window.ensures.kept.len, c.advance_rcv_nxt.ensures.kept.app, c.advance_rcv_nxt.ensures.kept.len) can;
}
