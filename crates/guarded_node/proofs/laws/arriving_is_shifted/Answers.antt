use Rattle.guarded_node.proofs.Arriving.{arriving_is}
use Rattle.guarded_node.proofs.laws.arriving_is_shifted.Goals as goal

pub returns : goal.returns
returns c = arriving_is
