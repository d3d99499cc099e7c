use Rattle.uip_both_c.proofs.device.write.Goals as goal

pub returns-clause-can : goal.returns-clause-can
returns-clause-can c = c.write.ensures.can

pub returns-clause-written : goal.returns-clause-written
returns-clause-written c = c.write.ensures.written
