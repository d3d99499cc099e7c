-- The worked workloads are computed from the definition, and their length by law.
use Rattle.workload.proofs.Prelude.{refl, ◌∙◌, first_words, events_of, AreWorkedWorkloads}
use Rattle.workload.proofs.Keeping.{length-events}
use Rattle.workload.proofs.Working.{length-numbered}

pub worked : AreWorkedWorkloads
unfolding first_words
worked = record { first_word = refl; lines_of_one = length-numbered 2 (events_of 42 1) ∙ length-events 42 1; clients_of_two = refl; again = refl; round = refl }
