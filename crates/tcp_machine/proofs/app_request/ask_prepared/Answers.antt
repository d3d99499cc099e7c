use Rattle.tcp_machine.proofs.Transmission.{has_part_of}
use Rattle.tcp_machine.proofs.app_request.ask_prepared.Goals as goal

pub want-want-requires : goal.want-want-requires
want-want-requires g c = has_part_of g.A.App (g.A.App.config c.args.shared.now) c.args.conn.now c.requires.sound c.requires.asked.open_to_it
