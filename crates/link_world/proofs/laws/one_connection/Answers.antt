use Rattle.link_world.proofs.laws.one_connection.Goals as goal
use Rattle.link_world.proofs.Eras.{one_connection}

pub returns : goal.returns
returns c = one_connection
