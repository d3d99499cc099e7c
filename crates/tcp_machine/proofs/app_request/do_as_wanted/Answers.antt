-- What is sent is at least one byte, and the application has it.
use Rattle.tcp_machine.proofs.Prelude.{rules, arith, ap, sym, ◌∙◌, can_supply_wanted, can_less, is_open}
use Rattle.tcp_machine.proofs.Transmission.{has_part_of, open_lives, sends_some}
use Rattle.tcp_machine.proofs.app_request.do_as_wanted.Goals as goal

pub send-requires-in-Send-clause-some : goal.send-requires-in-Send-clause-some
send-requires-in-Send-clause-some g c =
    let k = g.A.App.config c.args.shared.now in
    let some = sends_some g.A.App.app_spec g.A.App.represents k c.args.conn.now.app (g.met.A.App.lawful c.args.conn.now.app k)
    (g.A.App.numbers c.args.shared.now) c.in-Send.count
    (has_part_of g.A.App k c.args.conn.now c.requires.sound c.requires.asked.open_to_it)
    (λ p s. sym c.in-Send.is ∙ c.requires.want p s) in
    let low = (c.requires.sound.numbers (open_lives c.args.conn.now.state c.requires.asked.open_to_it)).mss_low in
    omega (arith, some, low, c.min-len.ensures)

pub returns-in-Send-clause-takes : goal.returns-in-Send-clause-takes
returns-in-Send-clause-takes g c = record {
  same = search rules;
  sound = record {
    numbers = search rules;
    says = λ _.
        let k = g.A.App.config c.args.shared.now in
        let can = can_less g.A.App.app_spec g.A.App.represents c.args.conn.now.app k c.in-Send.count c.min-len.result (omega (arith, c.min-len.ensures))
        (can_supply_wanted g.A.App.app_spec g.A.App.represents c.args.conn.now.app k (g.A.App.numbers c.args.shared.now) c.in-Send.count
        (g.met.A.App.lawful c.args.conn.now.app k)
        (has_part_of g.A.App k c.args.conn.now c.requires.sound c.requires.asked.open_to_it)
        (λ p s. sym c.in-Send.is ∙ c.requires.want p s)) in
        rw (c.send-in-Send.ensures.kept.app, c.send-in-Send.ensures.len) can;
  };
  place = search rules;
  fits = λ _. (ap is_open c.send-in-Send.ensures.state ∙ c.requires.asked.open_to_it, c.send-in-Send.ensures.some);
  meets = search rules;
}

pub returns-in-Send-clause-fits : goal.returns-in-Send-clause-fits
returns-in-Send-clause-fits g c = (ap is_open c.send-in-Send.ensures.state ∙ c.requires.asked.open_to_it, c.send-in-Send.ensures.some)
