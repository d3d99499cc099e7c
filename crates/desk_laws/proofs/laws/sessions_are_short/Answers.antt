use Rattle.desk_laws.proofs.ShortSessions.{sessions_short}
use Rattle.desk_laws.proofs.laws.sessions_are_short.Goals as goal

pub returns : goal.returns
returns c = sessions_short
