use Rattle.own_app.proofs.OwnLines.{own_speaks}
use Rattle.own_app.proofs.laws.own_app_speaks_on_lines.Goals as goal

pub returns : goal.returns
returns c = own_speaks
