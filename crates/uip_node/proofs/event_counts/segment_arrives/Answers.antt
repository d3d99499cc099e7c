-- The counters represent the longer history.
use Rattle.uip_node.proofs.Prelude.{Arrived}
use Rattle.uip_node.proofs.Twice.{counted}
use Rattle.uip_node.proofs.event_counts.segment_arrives.Goals as goal

pub returns : goal.returns
returns c = λ sockets segment history h. counted (Arrived sockets segment) history c.args.net.now c.raised.result h c.raised.ensures
