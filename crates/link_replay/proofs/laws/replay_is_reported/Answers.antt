use Rattle.link_replay.proofs.Undisturbed.{replay_is_reported}
use Rattle.link_replay.proofs.laws.replay_is_reported.Goals as goal

pub returns : goal.returns
returns c = replay_is_reported
