use Rattle.link_world.proofs.laws.text_numbers.Goals as goal
use Rattle.link_world.proofs.NodeRuns.{text_numbers_hold}

pub returns : goal.returns
returns c = text_numbers_hold
