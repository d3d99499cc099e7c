use Rattle.link_world.proofs.laws.mark_is_low.Goals as goal
use Rattle.link_world.proofs.Bounds.{mark_is_low}

pub returns : goal.returns
returns c = mark_is_low
