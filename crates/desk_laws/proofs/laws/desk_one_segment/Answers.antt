use Rattle.desk_laws.proofs.DeskWorlds.{one_segment}
use Rattle.desk_laws.proofs.laws.desk_one_segment.Goals as goal

pub returns : goal.returns
returns c = one_segment
