use Rattle.uip_both_c.proofs.device.pending.Goals as goal

pub returns : goal.returns
returns c = c.pending.ensures
