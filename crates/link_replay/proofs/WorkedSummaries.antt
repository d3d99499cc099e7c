-- The worked summaries.
use Rattle.link_replay.proofs.Prelude.{refl, digits, AreWorkedSummaries}

pub worked : AreWorkedSummaries
unfolding digits
worked = record { of_five = refl; of_none = refl }
