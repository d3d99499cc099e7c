use Rattle.dns_message.proofs.SpelledLaws.{are_spelled}
use Rattle.dns_message.proofs.laws.records_are_spelled.Goals as goal

pub returns : goal.returns
returns c = are_spelled
