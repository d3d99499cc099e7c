use Rattle.node_laws.proofs.laws.arrives_under_loss.Goals as goal
use Rattle.node_laws.proofs.HonestPeers.{arrives_under_loss}

pub returns : goal.returns
returns c = arrives_under_loss
