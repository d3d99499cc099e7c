use Rattle.uip_slip.proofs.Prelude.{◌-◌, length}
use Rattle.uip_slip.proofs.Words.{PlainUntil}
use Rattle.uip_slip.proofs.marks.plain_by_words.Given as goal

abbrev pub invariant-words : goal.invariant-words
invariant-words l = PlainUntil l.bytes l.at

abbrev pub decreases-words : goal.decreases-words
decreases-words l = length l.bytes - l.at

abbrev pub invariant-rest : goal.invariant-rest
invariant-rest l = PlainUntil l.bytes l.at

abbrev pub decreases-rest : goal.decreases-rest
decreases-rest l = length l.bytes - l.at
