use Rattle.uip_both_c.proofs.device.input_frame.Goals as goal

pub returns-clause-answers : goal.returns-clause-answers
returns-clause-answers c = c.input.ensures.answers
