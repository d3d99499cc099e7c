-- The snapshot at which the application is asked.
use Rattle.uip_node.proofs.Prelude.{refl, Now, Step, live_rows}
use Rattle.uip_node.proofs.Settling.{prepared_asked, settled}
use Rattle.uip_node.proofs.slot_events.ask_ready.Goals as goal

pub returns-clause-meets : goal.returns-clause-meets
returns-clause-meets g c = λ abstracts o within h.
    let k = g.A.App.config c.args.shared.now in
    let ns = g.A.App.numbers c.args.shared.now in
    let now : Now = record { ticks = c.args.ticks; net = c.args.net.now; rows = live_rows 0 c.args.table.now.conns } in
    settled g.A.App k (g.A.App.app_spec k) c.args.table.now.conns c.ask_in.new.table.conns abstracts ns
    (Step.Ask c.args.fresh) c.ask_in.result c.args.slot c.args.ticks c.args.net.now c.args.fresh now o within refl h refl
    (prepared_asked g.A.App k c.args.slot now c.args.fresh c.args.table.now.conns c.ready_in.new.table.conns c.ask_in.new.table.conns ns c.ask_in.result
    c.ready_in.ensures.meets c.ask_in.ensures.meets)
