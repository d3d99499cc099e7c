use Rattle.link_world.proofs.laws.clean_parts.Goals as goal
use Rattle.link_world.proofs.Parts.{clean_parts}

pub returns : goal.returns
returns c = clean_parts
