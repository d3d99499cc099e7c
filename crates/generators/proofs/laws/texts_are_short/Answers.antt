use Rattle.generators.proofs.Prelude.{texts_short}
use Rattle.generators.proofs.laws.texts_are_short.Goals as goal

pub returns : goal.returns
returns c = texts_short
