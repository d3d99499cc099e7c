use Rattle.uip_c.proofs.Opened.{ether_given}
use Rattle.uip_c.proofs.handle.give.Goals as goal

pub returns-in-Ether-clause-gives : goal.returns-in-Ether-clause-gives
returns-in-Ether-clause-gives c =
    rw c.in-Ether.is (rw (← c.deref_mut-in-Ether.ensures.value) (ether_given c.args.number c.args.text.now c.deref_mut-in-Ether.result.now
    c.set_node_value.new.node c.set_node_value.ensures))
