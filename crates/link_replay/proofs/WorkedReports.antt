-- Each report is computed from the definitions.
use Rattle.link_replay.proofs.Prelude.{refl, digits, encode_with, AreWorkedReports}

pub worked : AreWorkedReports
unfolding digits encode_with
worked = record { short = refl; shown = refl; flags = refl; no_flags = refl; states = refl }
