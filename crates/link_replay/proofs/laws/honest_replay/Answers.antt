use Rattle.link_replay.proofs.Honest.{honest_replay}
use Rattle.link_replay.proofs.laws.honest_replay.Goals as goal

pub returns : goal.returns
returns c = honest_replay
