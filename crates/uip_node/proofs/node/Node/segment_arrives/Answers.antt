-- The connection that a segment belongs to.
use Rattle.uip_node.proofs.Prelude.{rules, ◌≡◌, ◌<◌, Some, None, arith, sym, ◌∙◌, length, position, and_parts, datagram_in, plain_of, is_at}
use Rattle.uip_node.proofs.Prelude.{sockets_of, Arrived}
use Rattle.uip_node.proofs.Finding.{arrived, found, not_found}
use Rattle.uip_node.proofs.node.Node.segment_arrives.Goals as goal

pub deliver-requires-clause-live : goal.deliver-requires-clause-live
deliver-requires-clause-live g c = λ d at.
    let p = is_at c.args.peer c.args.seg.now.from c.args.seg.now.to in
    (and_parts _ _ ((found p c.self.inside.table.conns c.in-Some.slot (sym c.find.ensures ∙ c.in-Some.is)).1 d at)).0

pub answer_no_connection-requires : goal.answer_no_connection-requires
answer_no_connection-requires g c = record {
  free = λ j d at. not_found (is_at c.args.peer c.args.seg.now.from c.args.seg.now.to) c.self.inside.table.conns (sym c.find.ensures ∙ c.in-None.is) j d at;
}

pub returns-in-Some-clause-refines : goal.returns-in-Some-clause-refines
returns-in-Some-clause-refines g c = rw (← c.self.view_is) (record {
  same = search rules;
  step = λ n h.
      let s = sockets_of c.args.peer c.args.seg.now in
      let seg = plain_of c.args.seg.now (datagram_in c.self.inside.packet) in
      let here : position (is_at s.peer s.peer_port s.own_port) c.self.inside.table.conns ≡ Some c.in-Some.slot = sym c.find.ensures ∙ c.in-Some.is in
      let within : c.in-Some.slot < length n.connections = omega (arith, (found _ c.self.inside.table.conns c.in-Some.slot here).0, h.slots.same_length) in
      arrived g.A.App _ n s seg (Some c.in-Some.slot) c.segment_arrives.new.net c.deliver.new.self c.deliver.result h here
      (c.segment_arrives.ensures s seg n.history h.counts.net)
      (λ later. c.deliver.ensures.step n (Arrived s seg) later within);
})

pub returns-in-None-clause-refines : goal.returns-in-None-clause-refines
returns-in-None-clause-refines g c = rw (← c.self.view_is) (record {
  same = search rules;
  step = λ n h.
      let seg = plain_of c.args.seg.now (datagram_in c.self.inside.packet) in
      arrived g.A.App _ n (sockets_of c.args.peer c.args.seg.now) seg None c.segment_arrives.new.net c.answer_no_connection.new.self
      c.answer_no_connection.result h
      (sym c.find.ensures ∙ c.in-None.is) (c.segment_arrives.ensures (sockets_of c.args.peer c.args.seg.now) seg n.history h.counts.net)
      (λ later. c.answer_no_connection.ensures.step n seg.text later);
})
