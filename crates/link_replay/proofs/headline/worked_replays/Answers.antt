use Rattle.link_replay.proofs.headline.worked_replays.Goals as goal
use Rattle.link_replay.proofs.Worked.{worked}

pub returns : goal.returns
returns c = worked
