use Rattle.guarded_node.proofs.Leaving.{leaving_is}
use Rattle.guarded_node.proofs.laws.leaving_is_shifted.Goals as goal

pub returns : goal.returns
returns c = leaving_is
