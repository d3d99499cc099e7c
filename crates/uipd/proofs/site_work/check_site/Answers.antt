use Rattle.uipd.proofs.Prelude.{rules}
use Rattle.uipd.proofs.site_work.check_site.Goals as goal

pub returns-clause-runs : goal.returns-clause-runs
returns-clause-runs g c = (c.check.result, c.from.ensures, search rules)
