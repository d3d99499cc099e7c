use Rattle.link_world.proofs.laws.honest_link.Goals as goal
use Rattle.link_world.proofs.Honest.{honest_link}

pub returns : goal.returns
returns c = honest_link
