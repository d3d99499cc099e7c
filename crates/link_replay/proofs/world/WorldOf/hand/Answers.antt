use Rattle.link_replay.proofs.Prelude.{◌∙◌, sym, subst, hands_over, Who, WorldRepresents, link_of}
use Rattle.link_replay.proofs.Handling.{handed_done, still_linked}
use Rattle.link_replay.proofs.world.WorldOf.hand.Goals as goal

pub invariant_of-self : goal.invariant_of-self
invariant_of-self g c = record { link = still_linked _ _ c.self-in-FromNode.invariant.link c.receive.ensures.kept; room = c.receive.ensures.room }

pub invariant_of-self-in-FromNode : goal.invariant_of-self-in-FromNode
invariant_of-self-in-FromNode g c = record { link = still_linked _ _ c.self-in-FromNode.invariant.link c.receive.ensures.kept; room = c.receive.ensures.room }

pub returns-in_ok-receive-in-FromNode-clause-handed : goal.returns-in_ok-receive-in-FromNode-clause-handed
returns-in_ok-receive-in-FromNode-clause-handed g c = rw (← c.self-in-FromNode.view_is) (λ w s to.
    let a = g.A.App in
    let m = a.app_spec (a.config c.self-in-FromNode.inside.node.shared) in
    let number = c.in-FromNode.client in
    let link = link_of c.receive.new.sides.items c.receive.new.sent.items in
    subst (λ (who : Who). WorldRepresents a (record {
      node = c.self-in-FromNode.inside.node;
      link = link;
      mark = c.self-in-FromNode.inside.mark;
      spent = c.self-in-FromNode.inside.spent;
      area = c.receive.new.area.items;
    }) (hands_over m a.served w c.args.bytes.now who)) (sym c.in-FromNode.is)
    (handed_done a _ link c.receive.new.area.items w number c.args.bytes.now s
    (c.in_ok-receive-in-FromNode.ensures.delivered w s.link (c.ticks-tick.ensures ∙ s.node.counts.ticks)) (c.receive.ensures.kept w.node.addr s.home)))
