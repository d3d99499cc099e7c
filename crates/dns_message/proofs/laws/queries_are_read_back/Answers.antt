use Rattle.dns_message.proofs.QueryLaws.{read_back}
use Rattle.dns_message.proofs.laws.queries_are_read_back.Goals as goal

pub returns : goal.returns
returns c = read_back
