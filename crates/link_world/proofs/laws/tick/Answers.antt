use Rattle.link_world.proofs.laws.tick.Goals as goal
use Rattle.link_world.proofs.Ticks.{tick}

pub returns : goal.returns
returns c = tick
