use Rattle.udp_resolver.proofs.ReportedLaws.{from_replies}
use Rattle.udp_resolver.proofs.laws.addresses_are_from_replies.Goals as goal

pub returns : goal.returns
returns c = from_replies
