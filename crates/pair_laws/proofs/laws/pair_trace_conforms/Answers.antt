use Rattle.pair_laws.proofs.PairLines.{trace_conforms}
use Rattle.pair_laws.proofs.laws.pair_trace_conforms.Goals as goal

pub returns : goal.returns
returns c = trace_conforms
