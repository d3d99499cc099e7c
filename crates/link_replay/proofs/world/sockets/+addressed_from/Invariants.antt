use Rattle.link_replay.proofs.Prelude.{length}
use Rattle.link_replay.proofs.world.sockets.+addressed_from.Given as goal

abbrev pub decreases-addressed_from : goal.decreases-addressed_from
decreases-addressed_from l = length l.sides.now
