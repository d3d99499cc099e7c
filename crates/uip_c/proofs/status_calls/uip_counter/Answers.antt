use Rattle.uip_c.proofs.Taking.{read_in_node}
use Rattle.uip_c.proofs.status_calls.uip_counter.Goals as goal

pub returns-in-Some-read_device-clause-fine : goal.returns-in-Some-read_device-clause-fine
returns-in-Some-read_device-clause-fine c = let read = rw c.node_of.ensures at c.node_counter.ensures in
    rw c.read_device-read.ensures (λ fine. read_in_node _ c.in-Some-read_device.opened _ c.in-Some-read_device.ensures.taken
    (λ files own n s. read n s.node.represented))
