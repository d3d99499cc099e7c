use Rattle.web_pages.proofs.Prelude.{script_functions}
use Rattle.web_pages.proofs.PageLaws.{keeps_page_laws_by}
use Rattle.web_pages.proofs.Limits.{at_most_greatest_by}
use Rattle.web_pages.proofs.ByteLaws.{made_of_bytes_by}
use Rattle.web_pages.proofs.laws.pages_of_any_calls.Goals as goal

pub returns-clause-laws : goal.returns-clause-laws
returns-clause-laws g c = keeps_page_laws_by (script_functions g.R.Function.Calls.calling g.R.CallRecord.output) g.met.R.CallRecord.short

pub returns-clause-greatest : goal.returns-clause-greatest
returns-clause-greatest g c = at_most_greatest_by (script_functions g.R.Function.Calls.calling g.R.CallRecord.output) g.met.R.CallRecord.short

pub returns-clause-bytes : goal.returns-clause-bytes
returns-clause-bytes g c = made_of_bytes_by (script_functions g.R.Function.Calls.calling g.R.CallRecord.output) g.met.R.CallRecord.bytes
