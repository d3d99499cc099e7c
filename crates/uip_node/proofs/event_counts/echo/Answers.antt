-- The counters represent the longer history.
-- [add: counter] A call that raises the counter: a folder as this one.
use Rattle.uip_node.proofs.Prelude.{refl, EchoAsked, EchoReplied}
use Rattle.uip_node.proofs.Twice.{counted, second}
use Rattle.uip_node.proofs.event_counts.echo.Goals as goal

pub returns : goal.returns
returns c = λ history request h.
    second (EchoAsked request) EchoReplied history 1 11 20 c.raised-asked.result c.raised.result (record { apart = refl; both = refl })
    (counted (EchoAsked request) history c.args.net.now c.raised-asked.result h c.raised-asked.ensures) c.raised.ensures
