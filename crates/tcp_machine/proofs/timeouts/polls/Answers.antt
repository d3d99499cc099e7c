use Rattle.tcp_machine.proofs.Prelude.{rules, ap, is_open}
use Rattle.tcp_machine.proofs.Transmission.{has_part_of, can_supply_polled}
use Rattle.tcp_machine.proofs.timeouts.polls.Goals as goal

pub polled-requires : goal.polled-requires
polled-requires g c = has_part_of g.A.App (g.A.App.config c.args.shared.now) c.args.conn.now c.requires.sound (ap is_open c.requires.state)

pub returns-clause-takes : goal.returns-clause-takes
returns-clause-takes g c = record {
  same = search rules;
  sound = record {
    numbers = search rules;
    says = λ o. can_supply_polled g.A.App.app_spec g.A.App.represents (g.A.App.config c.args.shared.now) c.args.conn.now.app c.polled.new.self
        (g.met.A.App.lawful c.args.conn.now.app (g.A.App.config c.args.shared.now)) (g.A.App.numbers c.args.shared.now) c.args.conn.now.len
        c.polled.ensures.part (c.requires.sound.says o);
  };
  place = search rules;
  fits = search rules;
  meets = search rules;
}
