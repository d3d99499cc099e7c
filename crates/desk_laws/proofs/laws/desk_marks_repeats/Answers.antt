use Rattle.desk_laws.proofs.DeskWorlds.{marks_repeats}
use Rattle.desk_laws.proofs.laws.desk_marks_repeats.Goals as goal

pub returns : goal.returns
returns c = marks_repeats
