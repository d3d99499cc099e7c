-- The slot that a plain SYN takes.
use Rattle.uip_node.proofs.Prelude.{◌<◌, List, ◌∷◌, Some, None, ap, arith, sym, subst, ◌∙◌, length, refl, plain, sockets_of, HistoryEntry}
use Rattle.uip_node.proofs.Prelude.{NoSlot, Arrived, connection_in, AllWellFormed, slot_to_take}
use Rattle.uip_node.proofs.Finding.{opens_by, slot_within}
use Rattle.uip_node.proofs.Stepping.{opened, represents_later}
use Rattle.uip_node.proofs.node.Node.passive_open.Goals as goal

pub returns-in-Some-clause-step : goal.returns-in-Some-clause-step
returns-in-Some-clause-step g c = λ n text h.
    let now = c.args.self.now in
    let k = g.A.App.config now.shared in
    let slot = c.in-Some.slot in
    let s = sockets_of c.args.peer c.args.seg.now in
    let seg = plain c.args.seg.now text in
    let kept = subst (λ x. AllWellFormed g.A.App (g.A.App.config x.shared) x.table.conns) c.self.view_is c.self.invariant.kept in
    let here = sym (ap (λ x. slot_to_take x.table.conns) c.self.view_is) ∙ (sym c.slot_for_syn.ensures ∙ c.in-Some.is) in
    let within : slot < length n.connections = omega (arith, slot_within now.table.conns slot here, h.slots.same_length) in
    opens_by g.A.App k now.table.conns n s seg (Some slot) c.open.new.self c.open.result h.slots kept here
    (opened g.A.App c.open.new.self c.open.result (g.A.App.app_spec k) n s seg slot
    (c.open.ensures.step n (Arrived s seg) (connection_in slot n) text h within))

pub returns-in-None-clause-step : goal.returns-in-None-clause-step
returns-in-None-clause-step g c = rw (← c.self.view_is) (λ n text h.
    let now = c.self.inside in
    let s = sockets_of c.args.peer c.args.seg.now in
    let seg = plain c.args.seg.now text in
    let after : List HistoryEntry = record { event = Arrived s seg; answer = NoSlot } ∷ n.history in
    opens_by g.A.App (g.A.App.config now.shared) now.table.conns n s seg None
    (record {
      addr = now.addr;
      packet = now.packet;
      table = now.table;
      counts = record { net = c.turn_away.new.net; ticks = now.ticks; ident = now.ident };
      shared = now.shared;
    })
    None h.slots c.self.invariant.kept (sym c.slot_for_syn.ensures ∙ c.in-None.is)
    (record {
      represented = represents_later g.A.App _ now.packet _ n _ after after h h.iss
          (record { net = c.turn_away.ensures n.history (Arrived s seg) h.counts.net; ticks = h.counts.ticks; ident = h.counts.ident });
      sent = refl;
    }))
