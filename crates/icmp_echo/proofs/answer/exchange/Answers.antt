use Rattle.icmp_echo.proofs.Exchange.{addresses_exchanged}
use Rattle.icmp_echo.proofs.answer.exchange.Goals as goal

pub returns : goal.returns
returns c = addresses_exchanged _ _ _ _ _ c.requires c.get-source.ensures c.get-target.ensures c.put.ensures c.put-2.ensures
