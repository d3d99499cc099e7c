use Rattle.own_app.proofs.OwnLines.{own_conforms}
use Rattle.own_app.proofs.laws.own_trace_conforms.Goals as goal

pub returns : goal.returns
returns c = λ served own is numbers words steps are. own_conforms served own is numbers words steps are
