use Rattle.uip_ipv4.proofs.Back.{reads_back}
use Rattle.uip_ipv4.proofs.sent.reads_back.Goals as goal

pub returns : goal.returns
returns c = reads_back
