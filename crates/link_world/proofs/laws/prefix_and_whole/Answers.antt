use Rattle.link_world.proofs.laws.prefix_and_whole.Goals as goal
use Rattle.link_world.proofs.PrefixAndWhole.{prefix_and_whole}

pub returns : goal.returns
returns c = prefix_and_whole
