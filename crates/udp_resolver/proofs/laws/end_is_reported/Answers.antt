use Rattle.udp_resolver.proofs.EndLaws.{dry_reported, settled_reported}
use Rattle.udp_resolver.proofs.laws.end_is_reported.Goals as goal

pub returns : goal.returns
returns c = record { settled = settled_reported; dry = dry_reported }
