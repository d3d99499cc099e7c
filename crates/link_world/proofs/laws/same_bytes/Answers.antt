use Rattle.link_world.proofs.laws.same_bytes.Goals as goal
use Rattle.link_world.proofs.RetransmissionInvariant.{same_bytes}

pub returns : goal.returns
returns c = same_bytes
