use Rattle.udp_resolver.proofs.EndLaws.{budget_reported}
use Rattle.udp_resolver.proofs.laws.budget_is_reported.Goals as goal

pub returns : goal.returns
returns c = budget_reported
