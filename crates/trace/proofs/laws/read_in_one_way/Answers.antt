use Rattle.trace.proofs.OneReading.{one_reading}
use Rattle.trace.proofs.laws.read_in_one_way.Goals as goal

pub returns : goal.returns
returns c = one_reading
