use Rattle.uipd.proofs.Completing.{run_is_complete}
use Rattle.uipd.proofs.run.run_is_complete.Goals as goal

pub returns : goal.returns
returns c = run_is_complete
