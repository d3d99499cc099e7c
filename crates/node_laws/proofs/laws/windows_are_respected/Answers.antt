use Rattle.node_laws.proofs.laws.windows_are_respected.Goals as goal
use Rattle.node_laws.proofs.Windows.{windows_are_respected}

pub returns : goal.returns
returns c = windows_are_respected
