use Rattle.link_world.proofs.laws.again_exactly.Goals as goal
use Rattle.link_world.proofs.RetransmissionInvariant.{again_exactly}

pub returns : goal.returns
returns c = again_exactly
