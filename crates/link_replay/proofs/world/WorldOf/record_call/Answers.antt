use Rattle.link_replay.proofs.Handling.{still_linked}
use Rattle.link_replay.proofs.world.WorldOf.record_call.Goals as goal

pub invariant_of-self : goal.invariant_of-self
invariant_of-self g c = record { link = still_linked _ _ c.self.invariant.link c.tell.ensures.kept; room = c.self.invariant.room }

pub invariant_of-self-2 : goal.invariant_of-self-2
invariant_of-self-2 g c = record { link = still_linked _ _ c.self.invariant.link c.tell.ensures.kept; room = c.self.invariant.room }

pub returns-clause-kept : goal.returns-clause-kept
returns-clause-kept g c = rw (← c.self.view_is) c.tell.ensures.kept

pub returns-in_err-tell-clause-kept : goal.returns-in_err-tell-clause-kept
returns-in_err-tell-clause-kept g c = rw (← c.self.view_is) c.tell.ensures.kept

pub returns-clause-reported : goal.returns-clause-reported
returns-clause-reported g c = rw (← c.self.view_is) c.in_ok-tell.ensures.reported
