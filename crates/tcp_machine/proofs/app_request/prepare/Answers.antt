use Rattle.tcp_machine.proofs.Prelude.{rules}
use Rattle.tcp_machine.proofs.Transmission.{has_part_of, can_supply_prepared}
use Rattle.tcp_machine.proofs.app_request.prepare.Goals as goal

pub prepare-requires : goal.prepare-requires
prepare-requires g c = has_part_of g.A.App (g.A.App.config c.args.shared.now) c.args.conn.now c.requires.sound c.requires.asked.open_to_it

pub returns-clause-sound : goal.returns-clause-sound
returns-clause-sound g c = record {
  numbers = search rules;
  says = λ o. can_supply_prepared g.A.App.app_spec g.A.App.represents (g.A.App.config c.args.shared.now) c.args.conn.now.app c.prepare.new.self
      (g.met.A.App.lawful c.args.conn.now.app (g.A.App.config c.args.shared.now)) (g.A.App.numbers c.args.shared.now) c.args.now.now c.args.conn.now.len
      c.prepare.ensures (c.requires.sound.says o);
}
