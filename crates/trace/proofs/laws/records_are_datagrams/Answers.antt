use Rattle.trace.proofs.RoundTrip.{holds_just}
use Rattle.trace.proofs.laws.records_are_datagrams.Goals as goal

pub returns : goal.returns
returns c = holds_just
