use Rattle.node_laws.proofs.laws.honest_peer.Goals as goal
use Rattle.node_laws.proofs.HonestPeers.{honest_peer}

pub returns : goal.returns
returns c = honest_peer
