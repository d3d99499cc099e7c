-- The three replies to a segment of no connection.
use Rattle.uip_node.proofs.Prelude.{None, sym, ◌∙◌, subst, refl, plain, sockets_of, NodeStep, Steps}
use Rattle.uip_node.proofs.Stepping.{stranger_opens, stranger_passes, stranger_refused}
use Rattle.uip_node.proofs.node.Node.answer_no_connection.Goals as goal

pub returns-then-opens_here-clause-step : goal.returns-then-opens_here-clause-step
returns-then-opens_here-clause-step g c = λ n text h.
    subst (λ (t : NodeStep). Steps g.A.App c.passive_open.new.self c.passive_open.result t)
    (stranger_opens (g.A.App.app_spec (g.A.App.config c.args.self.now.shared)) g.A.App.served n (sockets_of c.args.peer c.args.seg.now)
    (plain c.args.seg.now text) (sym c.opens_here.ensures ∙ c.if-opens_here.true))
    (c.passive_open.ensures.step n text h)

pub returns-then-has_rst-clause-step : goal.returns-then-has_rst-clause-step
returns-then-has_rst-clause-step g c = λ n text h.
    subst (λ (t : NodeStep). Steps g.A.App c.args.self.now None t)
    (stranger_passes (g.A.App.app_spec (g.A.App.config c.args.self.now.shared)) g.A.App.served n (sockets_of c.args.peer c.args.seg.now)
    (plain c.args.seg.now text) (sym c.opens_here.ensures ∙ c.if-opens_here.false) (sym c.has_rst.ensures ∙ c.if-has_rst.true))
    (record {
      represented = record { addr = h.addr; slots = h.slots; iss = h.iss; numbers_represented = h.numbers_represented; counts = h.counts };
      sent = refl;
    })

pub returns-else-has_rst-clause-step : goal.returns-else-has_rst-clause-step
returns-else-has_rst-clause-step g c = λ n text h.
    subst (λ (t : NodeStep). Steps g.A.App c.refuse.new.self c.refuse.result t)
    (stranger_refused (g.A.App.app_spec (g.A.App.config c.args.self.now.shared)) g.A.App.served n (sockets_of c.args.peer c.args.seg.now)
    (plain c.args.seg.now text) (sym c.opens_here.ensures ∙ c.if-opens_here.false) (sym c.has_rst.ensures ∙ c.if-has_rst.false))
    (c.refuse.ensures.step n text h)
