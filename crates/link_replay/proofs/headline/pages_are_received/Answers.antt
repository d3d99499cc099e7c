use Rattle.link_replay.proofs.headline.pages_are_received.Goals as goal
use Rattle.link_replay.proofs.Web.{pages_are_received}

pub returns : goal.returns
returns c = pages_are_received
