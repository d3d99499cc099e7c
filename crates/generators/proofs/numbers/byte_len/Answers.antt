-- One digit, and one more from 10 and from 100 on.
use Rattle.generators.proofs.Prelude.{◌+◌, ◌∙◌, arith}
use Rattle.generators.proofs.Digits.{byte_digits}
use Rattle.generators.proofs.numbers.byte_len.Goals as goal

pub returns-clause-length : goal.returns-clause-length
returns-clause-length c =
    (λ i. 1 + c.from.ensures i + c.from-2.ensures i) ∙ byte_digits c.args.number (omega arith)
