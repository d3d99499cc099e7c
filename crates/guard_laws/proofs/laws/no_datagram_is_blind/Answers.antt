use Rattle.guard_laws.proofs.Datagrams.{no_datagram_is_blind}
use Rattle.guard_laws.proofs.laws.no_datagram_is_blind.Goals as goal

pub returns : goal.returns
returns c = no_datagram_is_blind
