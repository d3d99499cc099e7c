use Rattle.generators.proofs.Prelude.{◌+◌, ◌≡◌, decimal, length}
use Rattle.generators.proofs.numbers.decimal_len.Given as goal

abbrev pub invariant-loop-left : goal.invariant-loop-left
invariant-loop-left l = l.len + length (decimal l.left) ≡ length (decimal l.number)

abbrev pub decreases-loop-left : goal.decreases-loop-left
decreases-loop-left l = l.left
