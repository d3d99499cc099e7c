use Rattle.node_laws.proofs.laws.plainest_receives.Goals as goal
use Rattle.node_laws.proofs.Receiving.{plainest_receives}

pub returns : goal.returns
returns c = plainest_receives
