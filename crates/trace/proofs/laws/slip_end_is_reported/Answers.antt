use Rattle.trace.proofs.RoundTrip.{surely}
use Rattle.trace.proofs.laws.slip_end_is_reported.Goals as goal

pub returns : goal.returns
returns c = surely
