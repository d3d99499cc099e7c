use Rattle.link_world.proofs.laws.epochs_are_few.Goals as goal
use Rattle.link_world.proofs.Eras.{epochs_are_few}

pub returns : goal.returns
returns c = epochs_are_few
