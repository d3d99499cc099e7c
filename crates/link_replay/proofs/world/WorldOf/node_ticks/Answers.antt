use Rattle.link_replay.proofs.Prelude.{◌∙◌, Periodic}
use Rattle.link_replay.proofs.Handling.{periodic_to, recorded}
use Rattle.link_replay.proofs.world.WorldOf.node_ticks.Goals as goal

pub returns-clause-ticked : goal.returns-clause-ticked
returns-clause-ticked g c = rw (← c.self.view_is) (λ w s.
    let a = g.A.App in
    let m = a.app_spec (a.config c.self.inside.node.shared) in
    let did = c.periodic-answer.ensures.refines.step w.node s.node in
    let call = c.in_ok-record_call.ensures in
    recorded a m a.served (Periodic c.args.slot) _ c.record_call.new.self w call.node did.represented
    (call.reported m a.served w (Periodic c.args.slot) (c.of-before.ensures w.node s.node)
    (periodic_to m a.served w.node c.args.slot c.pair-to.result (c.pair-to.ensures w.node (c.of-before.ensures w.node s.node))) did.represented did.sent s.link)
    (call.kept w.node.addr s.home) (call.mark ∙ s.mark) (call.spent ∙ s.fresh))
