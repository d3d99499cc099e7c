use Rattle.uip_both_c.proofs.BothKeepLaws.{calls_conform}
use Rattle.uip_both_c.proofs.laws.both_calls_keep_the_promise.Goals as goal

pub returns : goal.returns
returns c = calls_conform
