use Rattle.own_node.proofs.Prelude.{◌∙◌, connection_in}
use Rattle.own_node.proofs.ReadingLaws.{none_seen, not_ready, own_seen, ready_is}
use Rattle.own_node.proofs.port_status.is_ready.Goals as goal

pub returns-in-None : goal.returns-in-None
returns-in-None g c = λ n represents. not_ready (g.H.HoldsOwn.seen (connection_in c.args.slot n))
    (none_seen g.H.App g.H.HoldsOwn.seen _ n _ _ _ _ represents.slots c.conn-conn.ensures c.own.ensures c.in-None.is)

pub returns-in-Some : goal.returns-in-Some
returns-in-Some g c = λ n represents. c.is_ready_by.ensures
    ∙ ready_is _ _ _ _ _ (own_seen g.H.App g.H.HoldsOwn.seen _ n _ _ _ _ represents.slots c.conn-conn.ensures c.own.ensures c.in-Some.app c.in-Some.is)
