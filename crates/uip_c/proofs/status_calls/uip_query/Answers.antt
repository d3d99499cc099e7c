use Rattle.uip_c.proofs.Prelude.{◌∙◌, ap, sym, Kept, node_in, node_of}
use Rattle.uip_c.proofs.Taking.{node_kept}
use Rattle.uip_c.proofs.status_calls.uip_query.Goals as goal

pub returns-in-Some-read_device-clause-fine : goal.returns-in-Some-read_device-clause-fine
returns-in-Some-read_device-clause-fine c = rw c.read_device-read.ensures (λ fine. (
  node_of c.in-Some-read_device.opened,
  ap (λ (k : Kept). node_in k) (sym c.in-Some-read_device.ensures.taken) ∙ node_kept c.in-Some-read_device.opened,
  rw c.node_of.ensures at c.node_query.ensures,
))
