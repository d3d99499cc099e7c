-- What is not due is not prepared.
use Rattle.uip_node.proofs.Prelude.{refl, live_rows}
use Rattle.uip_node.proofs.Settling.{prepares_none}
use Rattle.uip_node.proofs.slot_events.ready_in.Goals as goal

pub returns-then-not-is_due_in-clause-meets : goal.returns-then-not-is_due_in-clause-meets
returns-then-not-is_due_in-clause-meets g c =
    prepares_none g.A.App (g.A.App.config c.args.shared.now) c.args.slot
    (record { ticks = c.args.ticks; net = c.args.net.now; rows = live_rows 0 c.args.table.now.conns })
    c.args.table.now.conns (g.A.App.numbers c.args.shared.now) (c.if-not-is_due_in.ensures.not_due refl)
