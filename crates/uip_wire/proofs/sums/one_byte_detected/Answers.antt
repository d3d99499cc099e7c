use Rattle.uip_wire.proofs.Folding.{one_byte}
use Rattle.uip_wire.proofs.sums.one_byte_detected.Goals as goal

pub returns : goal.returns
returns c = one_byte
