use Rattle.uip_c.proofs.Prelude.{Option, subst, Row, ReportsRow}
use Rattle.uip_c.proofs.Taking.{read_in_node}
use Rattle.uip_c.proofs.status_calls.uip_connection.Goals as goal

pub returns-in-Some-read_device-clause-fine : goal.returns-in-Some-read_device-clause-fine
returns-in-Some-read_device-clause-fine c = λ fine. let reported = rw c.node_of.ensures at c.node_row.ensures in
    read_in_node _ c.in-Some-read_device.opened _ c.in-Some-read_device.ensures.taken
    (λ files own n s. subst (λ (r : Option Row). ReportsRow r c.read_device-read.result) (reported n s.node.represented) c.read_device-read.ensures.row)
