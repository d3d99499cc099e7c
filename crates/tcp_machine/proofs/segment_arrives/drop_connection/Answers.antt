use Rattle.tcp_machine.proofs.Prelude.{sym, ◌∙◌}
use Rattle.tcp_machine.proofs.Transmission.{has_part_of}
use Rattle.tcp_machine.proofs.segment_arrives.drop_connection.Goals as goal

pub ended-requires : goal.ended-requires
ended-requires g c =
    has_part_of g.A.App (g.A.App.config c.args.shared.now) c.args.conn.now c.requires (sym c.is_open.ensures ∙ c.if-is_open.true)
