-- A counter has ten places and a line end.
use Rattle.generators.proofs.Prelude.{arith, sym, line_long}
use Rattle.generators.proofs.numbers.U32Written.len.Goals as goal

pub returns-clause-length : goal.returns-clause-length
returns-clause-length c = sym (line_long c.args.self.now (omega arith))
