use Rattle.uip_both_c.proofs.device.is_ready.Goals as goal

pub returns : goal.returns
returns c = c.is_ready.ensures
