use Rattle.site_commands.proofs.EndLaws.{as_due}
use Rattle.site_commands.proofs.laws.ends_as_due.Goals as goal

pub returns : goal.returns
returns c = as_due
