use Rattle.own_node.proofs.CaptureLaws.{captures_ready}
use Rattle.own_node.proofs.laws.ready_messages_are_captured.Goals as goal

pub returns : goal.returns
returns c = captures_ready
