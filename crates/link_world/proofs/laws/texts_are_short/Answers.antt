use Rattle.link_world.proofs.laws.texts_are_short.Goals as goal
use Rattle.link_world.proofs.NodeRuns.{texts_are_short}

pub returns : goal.returns
returns c = texts_are_short
