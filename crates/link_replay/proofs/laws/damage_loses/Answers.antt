use Rattle.link_replay.proofs.Reaching.{damage_loses}
use Rattle.link_replay.proofs.laws.damage_loses.Goals as goal

pub returns : goal.returns
returns c = damage_loses
