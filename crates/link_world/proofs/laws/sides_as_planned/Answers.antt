use Rattle.link_world.proofs.laws.sides_as_planned.Goals as goal
use Rattle.link_world.proofs.Bounds.{sides_as_planned}

pub returns : goal.returns
returns c = sides_as_planned
