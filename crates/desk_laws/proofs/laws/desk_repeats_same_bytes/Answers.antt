use Rattle.desk_laws.proofs.DeskWorlds.{repeats_same_bytes}
use Rattle.desk_laws.proofs.laws.desk_repeats_same_bytes.Goals as goal

pub returns : goal.returns
returns c = repeats_same_bytes
