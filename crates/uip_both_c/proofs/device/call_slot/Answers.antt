use Rattle.uip_both_c.proofs.device.call_slot.Goals as goal

pub returns-clause-answers : goal.returns-clause-answers
returns-clause-answers c = c.periodic.ensures.answers
