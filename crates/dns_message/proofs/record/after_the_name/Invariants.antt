use Rattle.dns_message.proofs.Prelude.{◌≡◌, length, after_the_name}
use Rattle.dns_message.proofs.record.after_the_name.Given as goal

abbrev pub invariant-loop-rest : goal.invariant-loop-rest
invariant-loop-rest l = after_the_name 0 l.bytes ≡ after_the_name 0 l.rest

abbrev pub decreases-loop-rest : goal.decreases-loop-rest
decreases-loop-rest l = length l.rest
