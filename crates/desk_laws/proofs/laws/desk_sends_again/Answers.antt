use Rattle.desk_laws.proofs.DeskWorlds.{sends_again}
use Rattle.desk_laws.proofs.laws.desk_sends_again.Goals as goal

pub returns : goal.returns
returns c = sends_again
