use Rattle.link_replay.proofs.MadeLaws.{only_full}
use Rattle.link_replay.proofs.laws.only_full.Goals as goal

pub returns : goal.returns
returns c = only_full
