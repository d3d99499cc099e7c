use Rattle.link_replay.proofs.HonestPeers.{honest_web_peer}
use Rattle.link_replay.proofs.laws.honest_web_peer.Goals as goal

pub returns : goal.returns
returns c = honest_web_peer
