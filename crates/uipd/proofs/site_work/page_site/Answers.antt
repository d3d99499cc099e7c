use Rattle.uipd.proofs.Prelude.{rules}
use Rattle.uipd.proofs.site_work.page_site.Goals as goal

pub returns-clause-runs : goal.returns-clause-runs
returns-clause-runs g c = (c.page.result, c.from.ensures, search rules)
