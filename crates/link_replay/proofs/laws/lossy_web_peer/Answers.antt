use Rattle.link_replay.proofs.laws.lossy_web_peer.Goals as goal
use Rattle.link_replay.proofs.LossyPeers.{lossy_web_peer}

pub returns : goal.returns
returns c = lossy_web_peer
