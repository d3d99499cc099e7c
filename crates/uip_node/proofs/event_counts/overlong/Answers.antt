-- The counters represent the longer history.
use Rattle.uip_node.proofs.Prelude.{Overlong}
use Rattle.uip_node.proofs.Twice.{counted}
use Rattle.uip_node.proofs.event_counts.overlong.Goals as goal

pub returns : goal.returns
returns c = λ history h. counted Overlong history c.args.net.now c.raised.result h c.raised.ensures
