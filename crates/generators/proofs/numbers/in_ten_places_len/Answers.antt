-- Ten places.
use Rattle.generators.proofs.Prelude.{arith, sym, in_ten}
use Rattle.generators.proofs.numbers.in_ten_places_len.Goals as goal

pub returns-clause-length : goal.returns-clause-length
returns-clause-length c = sym (in_ten c.args._number (omega arith))
