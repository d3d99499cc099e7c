use Rattle.own_node.proofs.CaptureLaws.{pairs_capture}
use Rattle.own_node.proofs.laws.pairs_capture_ready_messages.Goals as goal

pub returns : goal.returns
returns c = pairs_capture
