use Rattle.link_world.proofs.laws.captures_fit.Goals as goal
use Rattle.link_world.proofs.NodeRuns.{captures_fit}

pub returns : goal.returns
returns c = captures_fit
