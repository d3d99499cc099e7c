use Rattle.own_node.proofs.Prelude.{◌∙◌, connection_in}
use Rattle.own_node.proofs.ReadingLaws.{no_port, none_seen, own_seen, port_is}
use Rattle.own_node.proofs.port_status.own_port.Goals as goal

pub returns-in-None : goal.returns-in-None
returns-in-None g c = λ n represents. no_port (g.H.HoldsOwn.seen (connection_in c.args.slot n))
    (none_seen g.H.App g.H.HoldsOwn.seen _ n _ _ _ _ represents.slots c.conn-conn.ensures c.own.ensures c.in-None.is)

pub returns-in-Some : goal.returns-in-Some
returns-in-Some g c = λ n represents. c.port_by.ensures ∙ port_is _ _ _ _ _ (own_seen g.H.App g.H.HoldsOwn.seen _ n _ _ _ _ represents.slots
    c.conn-conn.ensures c.own.ensures c.in-Some._app c.in-Some.is)
