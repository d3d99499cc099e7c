use Rattle.uipd.proofs.Prelude.{refl, rules, NoMemory}
use Rattle.uipd.proofs.site_work.pack_site.Goals as goal

pub returns-in-Ok-clause-runs : goal.returns-in-Ok-clause-runs
returns-in-Ok-clause-runs g c = (c.pack.result, c.from.ensures, search rules)

pub returns-in-Err-clause-runs : goal.returns-in-Err-clause-runs
returns-in-Err-clause-runs g c = (NoMemory, refl, refl)
