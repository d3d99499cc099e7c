use Rattle.desk_laws.proofs.DeskWorlds.{serves}
use Rattle.desk_laws.proofs.laws.desk_serves.Goals as goal

pub returns : goal.returns
returns c = serves
