use Rattle.link_world.proofs.laws.none_is_empty.Goals as goal
use Rattle.link_world.proofs.Bounds.{none_is_empty}

pub returns : goal.returns
returns c = none_is_empty
