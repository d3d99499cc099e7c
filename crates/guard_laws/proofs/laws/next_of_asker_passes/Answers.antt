use Rattle.guard_laws.proofs.Peers.{next_of_asker_passes}
use Rattle.guard_laws.proofs.laws.next_of_asker_passes.Goals as goal

pub returns : goal.returns
returns c = next_of_asker_passes
