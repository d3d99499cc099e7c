use Rattle.link_world.proofs.laws.acknowledged_later.Goals as goal
use Rattle.link_world.proofs.Bounds.{acknowledged_later}

pub returns : goal.returns
returns c = acknowledged_later
