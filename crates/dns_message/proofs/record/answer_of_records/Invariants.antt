use Rattle.dns_message.proofs.Prelude.{◌≡◌, ◌-◌, answer_of_records}
use Rattle.dns_message.proofs.record.answer_of_records.Given as goal

abbrev pub invariant-loop-number : goal.invariant-loop-number
invariant-loop-number l = answer_of_records l.count l.bytes ≡ answer_of_records (l.count - l._number) l.rest
