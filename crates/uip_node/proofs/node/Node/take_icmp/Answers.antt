-- The reply in the packet.
use Rattle.uip_node.proofs.Prelude.{rules, ℕ, ◌≤◌, List, Option, Some, ap, sym, ◌∙◌, subst, length, take, IcmpRefused, EchoAsked}
use Rattle.uip_node.proofs.Prelude.{option_map_or, IcmpFate, datagram_in, step, Counts, Steps}
use Rattle.uip_node.proofs.Stepping.{answered_long, payload_long, reply_is, represents_later}
use Rattle.uip_node.proofs.node.Node.take_icmp.Goals as goal

pub invariant_of-self-in-Ok : goal.invariant_of-self-in-Ok
invariant_of-self-in-Ok g c =
    let most = subst (λ x. c.args.head.now.total ≤ length (datagram_in x.packet)) (sym c.self.view_is) c.requires.most in
    let long = payload_long c.args.head.now (datagram_in c.self.inside.packet) most c.in-Ok.ensures.fate in
    record {
      size = answered_long c.args.head.now c.self.inside.packet c.reply.new.packet c.in-Ok.ensures.reply most long ∙ c.self.invariant.size;
      kept = c.self.invariant.kept;
    }

pub returns-in-Ok : goal.returns-in-Ok
returns-in-Ok g c = rw (← c.self.view_is) (record {
  same = search rules;
  step = λ n h.
      let now = c.self.inside in
      let bytes = datagram_in now.packet in
      let head = c.args.head.now in
      let request : List ℕ = take head.total bytes in
      let most = subst (λ x. head.total ≤ length (datagram_in x.packet)) (sym c.self.view_is) c.requires.most in
      let long = payload_long head bytes most c.in-Ok.ensures.fate in
      let replied = reply_is head now.packet c.reply.new.packet c.in-Ok.ensures.reply most long in
      let after : Counts = record { net = c.echo.new.net; ticks = now.ticks; ident = now.ident } in
      subst (λ (f : Option IcmpFate). Steps g.A.App
      (record { addr = now.addr; packet = c.reply.new.packet; table = now.table; counts = after; shared = now.shared })
      (Some (length c.bytes.result.now)) (step (g.A.App.app_spec (g.A.App.config now.shared)) g.A.App.served n
      (option_map_or IcmpRefused f (EchoAsked request)))) (sym c.in-Ok.ensures.fate)
      (record {
        represented = represents_later g.A.App _ c.reply.new.packet after n n.history _ _ h h.iss
            (record { net = c.echo.ensures n.history request h.counts.net; ticks = h.counts.ticks; ident = h.counts.ident });
        sent = record {
          answer = ap (λ (xs : List ℕ). Some (length xs)) (c.bytes.ensures ∙ replied);
          datagram = replied;
        };
      });
})
