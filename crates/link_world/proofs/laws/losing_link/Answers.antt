use Rattle.link_world.proofs.laws.losing_link.Goals as goal
use Rattle.link_world.proofs.LosingRun.{losing_link}

pub returns : goal.returns
returns c = losing_link
