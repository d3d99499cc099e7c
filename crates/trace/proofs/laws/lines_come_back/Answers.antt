use Rattle.trace.proofs.RoundTrip.{comes_back}
use Rattle.trace.proofs.laws.lines_come_back.Goals as goal

pub returns : goal.returns
returns c = comes_back
