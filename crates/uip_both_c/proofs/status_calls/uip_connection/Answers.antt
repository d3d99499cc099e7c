use Rattle.uip_both_c.proofs.Prelude.{Option, Row, ReportsRow, subst}
use Rattle.c_calls.proofs.Handles.{read_out}
use Rattle.uip_both_c.proofs.status_calls.uip_connection.Goals as goal

pub returns-in-Some-read_device-clause-fine : goal.returns-in-Some-read_device-clause-fine
returns-in-Some-read_device-clause-fine c = λ fine. (
  c.deref.result.now,
  read_out c.deref.result.now c.in-Some-read_device.opened.value _ c.deref.ensures c.in-Some-read_device.ensures.taken,
  λ files own n s. subst (λ (r : Option Row). ReportsRow r c.read_device-read.result) (c.node_row.ensures n s.node.represented) c.read_device-read.ensures.row,
)
