use Rattle.uip_slip.proofs.decoder.Decoder.new.Goals as goal

pub returns : goal.returns
returns c = c.new.ensures _
