use Rattle.uipd.proofs.ReportedCompleting.{reported_is_complete}
use Rattle.uipd.proofs.run_told.run_told_is_complete.Goals as goal

pub returns : goal.returns
returns c = reported_is_complete
