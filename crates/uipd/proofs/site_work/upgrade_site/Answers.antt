use Rattle.uipd.proofs.Prelude.{◌∙◌, refl, rules, NoMemory}
use Rattle.uipd.proofs.PartLaws.{kinds_made}
use Rattle.uipd.proofs.site_work.upgrade_site.Goals as goal

pub upgrade-requires : goal.upgrade-requires
upgrade-requires g c = kinds_made c.args.words.now c.deref.result.now (c.deref.ensures.value ∙ c.in-Ok.ensures) c.requires

pub returns-in-Ok-clause-runs : goal.returns-in-Ok-clause-runs
returns-in-Ok-clause-runs g c = (c.upgrade.result, c.from.ensures, search rules)

pub returns-in-Err-clause-runs : goal.returns-in-Err-clause-runs
returns-in-Err-clause-runs g c = (NoMemory, refl, refl)
