use Rattle.uip_app_c.proofs.AppKeepLaws.{calls_conform}
use Rattle.uip_app_c.proofs.laws.app_calls_keep_the_promise.Goals as goal

pub returns : goal.returns
returns c = calls_conform
