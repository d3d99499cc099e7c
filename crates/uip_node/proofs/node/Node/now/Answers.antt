-- The rows are the abstract node's.
use Rattle.uip_node.proofs.Prelude.{ℕ, List, ap, ◌∙◌, Now, Row, counters, ticks_of}
use Rattle.uip_node.proofs.Settling.{rows_represent}
use Rattle.uip_node.proofs.node.Node.now.Goals as goal

pub returns : goal.returns
returns g c = rw (← c.self.view_is) (λ n h.
    let now = c.self.inside in
    let rows = c.rows_in.ensures ∙ rows_represent g.A.App (g.A.App.config now.shared) 0 now.table.conns n.connections h.slots in
    ap {A = ℕ} {B = Now} (λ t. record { ticks = t; net = now.net; rows = c.rows_in.result }) h.counts.ticks
    ∙ (ap {A = List ℕ} {B = Now} (λ net. record { ticks = ticks_of n.history; net = net; rows = c.rows_in.result }) h.counts.net
    ∙ ap {A = List Row} {B = Now} (λ rs. record { ticks = ticks_of n.history; net = counters n.history; rows = rs }) rows))
