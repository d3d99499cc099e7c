use Rattle.pair_laws.proofs.PairLines.{speaks_on_lines}
use Rattle.pair_laws.proofs.laws.pair_speaks_on_lines.Goals as goal

pub returns : goal.returns
returns c = speaks_on_lines
