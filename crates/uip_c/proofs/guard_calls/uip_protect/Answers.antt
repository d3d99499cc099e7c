use Rattle.uip_c.proofs.guard_calls.uip_protect.Goals as goal

pub returns-then-device-eq-ON_ETHER-clause-ether_ready : goal.returns-then-device-eq-ON_ETHER-clause-ether_ready
returns-then-device-eq-ON_ETHER-clause-ether_ready c = rw c.new-key.ensures at c.protect_ether.ensures.ready

pub returns-else-device-eq-ON_ETHER-clause-ready : goal.returns-else-device-eq-ON_ETHER-clause-ready
returns-else-device-eq-ON_ETHER-clause-ready c = rw c.new-key.ensures at c.protect_line.ensures.ready
