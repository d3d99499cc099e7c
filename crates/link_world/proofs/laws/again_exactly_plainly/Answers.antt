use Rattle.link_world.proofs.laws.again_exactly_plainly.Goals as goal
use Rattle.link_world.proofs.RetransmissionInvariant.{again_exactly_plainly}

pub returns : goal.returns
returns c = again_exactly_plainly
