use Rattle.link_replay.proofs.Hits.{hits_are_counted}
use Rattle.link_replay.proofs.laws.hits_are_counted.Goals as goal

pub returns : goal.returns
returns c = hits_are_counted
