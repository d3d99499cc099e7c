-- The counters represent the longer history.
use Rattle.uip_node.proofs.Prelude.{NoSlot}
use Rattle.uip_node.proofs.Twice.{second, turns_away}
use Rattle.uip_node.proofs.event_counts.turn_away.Goals as goal

pub returns : goal.returns
returns c = λ history event h. second event NoSlot history 19 20 20 c.args.net.now c.raised.result (turns_away event) h c.raised.ensures
