use Rattle.device_values.proofs.Giving.{given_is_shown}
use Rattle.device_values.proofs.laws.given_is_shown.Goals as goal

pub returns : goal.returns
returns c = given_is_shown
