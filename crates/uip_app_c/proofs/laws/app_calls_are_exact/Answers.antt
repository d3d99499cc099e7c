use Rattle.uip_app_c.proofs.AppLaws.{calls_exact}
use Rattle.uip_app_c.proofs.laws.app_calls_are_exact.Goals as goal

pub returns : goal.returns
returns c = calls_exact
