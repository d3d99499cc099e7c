use Rattle.link_world.proofs.laws.lines_are_acts.Goals as goal
use Rattle.link_world.proofs.Lines.{lines_are_acts}

pub returns : goal.returns
returns c = lines_are_acts
