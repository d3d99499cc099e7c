use Rattle.desk_laws.proofs.Worked.{worked}
use Rattle.desk_laws.proofs.laws.worked_worlds.Goals as goal

pub returns : goal.returns
returns c = worked
