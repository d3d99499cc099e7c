use Rattle.udp_resolver.proofs.Prelude.{◌≡◌, None, replicate}
use Rattle.udp_resolver.proofs.run.no_answers.Given as goal

abbrev pub invariant-loop-name : goal.invariant-loop-name
invariant-loop-name l = l.answers.items ≡ replicate l._name None
