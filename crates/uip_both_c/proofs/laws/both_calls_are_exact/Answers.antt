use Rattle.uip_both_c.proofs.BothLaws.{calls_exact}
use Rattle.uip_both_c.proofs.laws.both_calls_are_exact.Goals as goal

pub returns : goal.returns
returns c = calls_exact
