-- In, through, and out.
use Rattle.std.proofs.Common.{sym, ap, ◌∙◌}
use Rattle.uip_node.specs.Prelude.{event_of}
use Rattle.guarded_node.specs.Counts.{counted}
use Rattle.guarded_node.specs.Guarded.{by_verdict, events_for, guarded}
use Rattle.guarded_node.specs.Verdicts.{verdict_on}
use Rattle.guarded_node.specs.Runs.{unchanged}
use Rattle.guarded_node.specs.Wire.{arriving, leaving}
use Rattle.guarded_node.specs.declared.verdict.Verdict.{Verdict}
use Rattle.packet_buffer.specs.Prelude.{datagram_in}
use Rattle.guarded_node.proofs.Joining.{counts_of_held, of_held, other_events, sent_out}
use Rattle.guarded_node.proofs.input.take_arrived.Goals as goal

pub returns-clause-counts : goal.returns-clause-counts
returns-clause-counts g c =
    let rules = c.args.guard.now.rules in
    counts_of_held g.A.App (λ bytes n. verdict_on rules g.A.App.served n bytes) (arriving rules.key (datagram_in c.args.node.now.packet))
    c.args.node.now c.put_in.new.node _ _ c.put_in.ensures
    (λ n h. c.count.ensures ∙ ap (λ (v : Verdict). counted v c.args.guard.now.counts) (c.take-taken.ensures.verdict n h))

pub returns-clause-takes : goal.returns-clause-takes
returns-clause-takes g c =
    let rules = c.args.guard.now.rules in
    sent_out g.A.App (leaving rules.key) (λ n. guarded rules g.A.App.served n (datagram_in c.args.node.now.packet)) c.args.node.now
    c.take-taken.new.node c.put_out.new.node c.take-taken.result.sent c.put_out.result
    (of_held g.A.App unchanged (λ bytes n. events_for rules g.A.App.served n bytes)
    (arriving rules.key (datagram_in c.args.node.now.packet)) c.args.node.now c.put_in.new.node c.take-taken.new.node c.take-taken.result.sent c.put_in.ensures
    (other_events g.A.App unchanged (λ n. by_verdict n (event_of n.addr (datagram_in c.put_in.new.node.packet)) c.take-taken.result.verdict)
    (λ n. events_for rules g.A.App.served n (datagram_in c.put_in.new.node.packet)) c.put_in.new.node c.take-taken.new.node c.take-taken.result.sent
    (λ n h. ap (λ (v : Verdict). by_verdict n (event_of n.addr (datagram_in c.put_in.new.node.packet)) v) (c.take-taken.ensures.verdict n h))
    c.take-taken.ensures.events)) c.put_out.ensures
