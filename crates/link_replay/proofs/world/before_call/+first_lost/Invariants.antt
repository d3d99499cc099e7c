use Rattle.link_replay.proofs.Prelude.{length}
use Rattle.link_replay.proofs.world.before_call.+first_lost.Given as goal

abbrev pub decreases-first_lost : goal.decreases-first_lost
decreases-first_lost g l = length l.pairs.now
