use Rattle.node_laws.proofs.laws.retransmits_or_resets.Goals as goal
use Rattle.node_laws.proofs.Timers.{retransmits_or_resets}

pub returns : goal.returns
returns c = retransmits_or_resets
