use Rattle.link_replay.proofs.Apart.{abort_and_close_apart}
use Rattle.link_replay.proofs.laws.abort_and_close_apart.Goals as goal

pub returns : goal.returns
returns c = abort_and_close_apart
