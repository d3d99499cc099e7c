use Rattle.link_replay.proofs.Undisturbed.{load_is_reported}
use Rattle.link_replay.proofs.laws.load_is_reported.Goals as goal

pub returns : goal.returns
returns c = load_is_reported
