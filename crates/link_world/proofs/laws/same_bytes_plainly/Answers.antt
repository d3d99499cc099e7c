use Rattle.link_world.proofs.laws.same_bytes_plainly.Goals as goal
use Rattle.link_world.proofs.RetransmissionInvariant.{same_bytes_plainly}

pub returns : goal.returns
returns c = same_bytes_plainly
