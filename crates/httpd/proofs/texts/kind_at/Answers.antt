use Rattle.httpd.proofs.Sizes.{kind_short}
use Rattle.httpd.proofs.texts.kind_at.Goals as goal

pub returns-clause-short : goal.returns-clause-short
returns-clause-short g c = kind_short c.args.site.now c.see_loaded.ensures c.args.id.0 c.kind.result.now c.kind.ensures
