use Rattle.udp_datagram.proofs.Back.{reads_back}
use Rattle.udp_datagram.proofs.sent.reads_back.Goals as goal

pub returns : goal.returns
returns c = reads_back
