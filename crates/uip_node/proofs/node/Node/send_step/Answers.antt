-- The reply is that of the definition.
use Rattle.uip_node.proofs.Prelude.{◌∷◌, ap, ◌∙◌, Bool, ◌+◌, ◌%◌, counters, Spoke, Counts}
use Rattle.uip_node.proofs.Answering.{sends_nothing, speaks}
use Rattle.uip_node.proofs.Twice.{sent_counted}
use Rattle.uip_node.proofs.node.Node.send_step.Goals as goal

pub returns-in-Some-clause-step : goal.returns-in-Some-clause-step
returns-in-Some-clause-step g c = rw (← c.self.view_is) (λ n event old o addr within iss counts meets.
    let now = c.self.inside in
    let m = g.A.App.app_spec (g.A.App.config now.shared) in
    let before : Counts = record { net = now.net; ticks = now.ticks; ident = now.ident } in
    let after : Counts = record { net = c.segment_sent.new.net; ticks = now.ticks; ident = (now.ident + 1) % 65536 } in
    let output = c.segment_sent.ensures n.history event counts.net
    ∙ ap (λ (b : Bool). counters (record { event = event; answer = Spoke b } ∷ n.history)) c.is_again.ensures in
    speaks g.A.App m (record { addr = now.addr; packet = c.speak_in.new.packet; table = now.table; counts = after; shared = now.shared })
    before c.in-Some.len n event c.args.slot old o c.args.step c.speak_in.result
    addr iss counts (sent_counted before event _ n.history c.segment_sent.new.net counts output)
    meets (c.speak_in.ensures.spoken n.connections (g.A.App.numbers now.shared) o within meets) c.in-Some.is)

pub returns-in-None-clause-step : goal.returns-in-None-clause-step
returns-in-None-clause-step g c = rw (← c.self.view_is) (λ n event old o addr within iss counts meets.
    let now = c.self.inside in
    let m = g.A.App.app_spec (g.A.App.config now.shared) in
    let before : Counts = record { net = now.net; ticks = now.ticks; ident = now.ident } in
    sends_nothing g.A.App m (record {
      addr = now.addr;
      packet = c.speak_in.new.packet;
      table = now.table;
      counts = before;
      shared = now.shared;
    }) _ n event c.args.slot old o c.args.step c.speak_in.result
    addr iss counts meets (c.speak_in.ensures.spoken n.connections (g.A.App.numbers now.shared) o within meets) c.in-None.is)
