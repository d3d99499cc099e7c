use Rattle.uip_slip.proofs.Prelude.{◌-◌, length}
use Rattle.uip_slip.proofs.Copies.{CopiedUntil}
use Rattle.uip_slip.proofs.plain_runs.copy_plain_by_words.Given as goal

abbrev pub invariant-words : goal.invariant-words
invariant-words l = CopiedUntil l.bytes l.fn.out l.at l.out

abbrev pub decreases-words : goal.decreases-words
decreases-words l = length l.bytes - l.at

abbrev pub invariant-rest : goal.invariant-rest
invariant-rest l = CopiedUntil l.bytes l.fn.out l.at l.out

abbrev pub decreases-rest : goal.decreases-rest
decreases-rest l = length l.bytes - l.at
