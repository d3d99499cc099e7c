use Rattle.guard_laws.proofs.Datagrams.{syn_is_answered}
use Rattle.guard_laws.proofs.laws.syn_is_answered.Goals as goal

pub returns : goal.returns
returns c = syn_is_answered
