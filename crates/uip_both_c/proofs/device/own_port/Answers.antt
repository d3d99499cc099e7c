use Rattle.uip_both_c.proofs.device.own_port.Goals as goal

pub returns : goal.returns
returns c = c.own_port.ensures
