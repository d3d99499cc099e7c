use Rattle.link_replay.proofs.Prelude.{◌∙◌, event_of}
use Rattle.link_replay.proofs.Handling.{recorded}
use Rattle.link_replay.proofs.world.WorldOf.node_receives.Goals as goal

pub returns-clause-delivered : goal.returns-clause-delivered
returns-clause-delivered g c = rw (← c.self.view_is) (λ w s to.
    let a = g.A.App in
    let m = a.app_spec (a.config c.self.inside.node.shared) in
    let did = c.input-answer.ensures.step w.node s.node in
    let call = c.in_ok-record_call.ensures in
    recorded a m a.served (event_of w.node.addr c.args.bytes.now) _ c.record_call.new.self w call.node did.represented
    (call.reported m a.served w (event_of w.node.addr c.args.bytes.now) (c.of-before.ensures w.node s.node) to did.represented did.sent s.link)
    (call.kept w.node.addr s.home) (call.mark ∙ s.mark) (call.spent ∙ s.fresh))
