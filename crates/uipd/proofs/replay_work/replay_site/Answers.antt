use Rattle.uipd.proofs.Prelude.{rules}
use Rattle.uipd.proofs.replay_work.replay_site.Goals as goal

pub returns-clause-runs : goal.returns-clause-runs
returns-clause-runs g c = (c.replay.result, c.from.ensures, search rules)
