use Rattle.link_replay.proofs.Prelude.{◌∙◌, own_step, link_of}
use Rattle.link_replay.proofs.Handling.{own_done, still_linked}
use Rattle.link_replay.proofs.world.WorldOf.own.Goals as goal

pub invariant_of-self : goal.invariant_of-self
invariant_of-self g c = record { link = still_linked _ _ c.self.invariant.link c.act_alone.ensures.kept; room = c.act_alone.ensures.room }

pub invariant_of-self-2 : goal.invariant_of-self-2
invariant_of-self-2 g c = record { link = still_linked _ _ c.self.invariant.link c.act_alone.ensures.kept; room = c.act_alone.ensures.room }

pub returns-clause-acted : goal.returns-clause-acted
returns-clause-acted g c = rw (← c.self.view_is) (λ w s.
    let a = g.A.App in
    own_done a _ (link_of c.act_alone.new.sides.items c.act_alone.new.sent.items) c.act_alone.new.area.items w c.args.number (own_step c.args.own) s
    (c.in_ok-act_alone.ensures.acted w s.link (c.ticks-tick.ensures ∙ s.node.counts.ticks)) (c.act_alone.ensures.kept w.node.addr s.home))
