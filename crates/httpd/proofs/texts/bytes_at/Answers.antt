use Rattle.httpd.proofs.Sizes.{content_short}
use Rattle.httpd.proofs.texts.bytes_at.Goals as goal

pub returns-clause-short : goal.returns-clause-short
returns-clause-short g c = content_short c.args.site.now c.see_loaded.ensures c.args.id.0 c.bytes.result.now c.bytes.ensures
