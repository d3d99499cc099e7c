use Rattle.uipd.proofs.Prelude.{rules}
use Rattle.uipd.proofs.replay_work.load_site.Goals as goal

pub returns-clause-runs : goal.returns-clause-runs
returns-clause-runs g c = (c.load.result, c.from.ensures, search rules)
