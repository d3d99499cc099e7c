use Rattle.node_laws.proofs.laws.wrong_incarnations_fall.Goals as goal
use Rattle.node_laws.proofs.WrongIncarnations.{wrong_incarnations_fall}

pub returns : goal.returns
returns c = wrong_incarnations_fall
