use Rattle.udp_resolver.proofs.Prelude.{silences}
use Rattle.udp_resolver.proofs.EventLaws.{not_over, ticked_again, ticked_over, ticked_wait}
use Rattle.udp_resolver.proofs.clock.Clock.tick.Goals as goal

pub returns-in-Wait-clause-at : goal.returns-in-Wait-clause-at
returns-in-Wait-clause-at c = λ happened e at.
    ticked_wait happened c.args.self.now c.tick.new.self c.tick.result c.in-Wait.is e at
    (c.tick.ensures.ages (silences happened) (not_over happened e) (at.age (not_over happened e)))

pub returns-in-Again-clause-at : goal.returns-in-Again-clause-at
returns-in-Again-clause-at c = λ happened e at.
    ticked_again happened c.args.self.now c.tick.new.self c.tick.result c.in-Again.is e at
    (c.tick.ensures.ages (silences happened) (not_over happened e) (at.age (not_over happened e)))

pub returns-in-GiveUp-clause-at : goal.returns-in-GiveUp-clause-at
returns-in-GiveUp-clause-at c = λ happened e at.
    ticked_over happened c.args.self.now c.tick.new.self c.tick.result c.in-GiveUp.is e at
    (c.tick.ensures.ages (silences happened) (not_over happened e) (at.age (not_over happened e)))
