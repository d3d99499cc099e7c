-- Three digits fewer are left, or one, two or three.
use Rattle.generators.proofs.Prelude.{arith, one_digit, three_digits, two_digits}
use Rattle.generators.proofs.Digits.{ten_most, three_more}
use Rattle.generators.proofs.numbers.decimal_len.Goals as goal

pub overflow_add-len : goal.overflow_add-len
overflow_add-len c = omega (arith, c.loop-left.invariant, ten_most c.args.number (omega arith))

pub loop-left-preserved : goal.loop-left-preserved
loop-left-preserved c = omega (arith, c.loop-left.invariant, three_more c.loop-left.left c.loop-left-test.true (omega arith))

pub overflow_add-result : goal.overflow_add-result
overflow_add-result c = omega (arith, c.loop-left.invariant, ten_most c.args.number (omega arith))

pub returns-then-left-lt10-clause-length : goal.returns-then-left-lt10-clause-length
returns-then-left-lt10-clause-length c = omega (arith, c.loop-left.invariant, one_digit c.loop-left.left c.if-left-lt10.true)

pub returns-then-left-lt10-clause-bound : goal.returns-then-left-lt10-clause-bound
returns-then-left-lt10-clause-bound c =
    omega (arith, c.loop-left.invariant, one_digit c.loop-left.left c.if-left-lt10.true, ten_most c.args.number (omega arith))

pub overflow_add-result-then-left-lt100 : goal.overflow_add-result-then-left-lt100
overflow_add-result-then-left-lt100 c = omega (arith, c.loop-left.invariant, ten_most c.args.number (omega arith))

pub returns-then-left-lt100-clause-length : goal.returns-then-left-lt100-clause-length
returns-then-left-lt100-clause-length c =
    omega (arith, c.loop-left.invariant, two_digits c.loop-left.left c.if-left-lt10.false c.if-left-lt100.true)

pub returns-then-left-lt100-clause-bound : goal.returns-then-left-lt100-clause-bound
returns-then-left-lt100-clause-bound c =
    omega (
      arith,
      c.loop-left.invariant,
      two_digits c.loop-left.left c.if-left-lt10.false c.if-left-lt100.true,
      ten_most c.args.number (omega arith),
    )

pub overflow_add-result-2 : goal.overflow_add-result-2
overflow_add-result-2 c = omega (arith, c.loop-left.invariant, ten_most c.args.number (omega arith))

pub returns-clause-length : goal.returns-clause-length
returns-clause-length c =
    omega (arith, c.loop-left.invariant, three_digits c.loop-left.left c.if-left-lt100.false c.loop-left-test.false)

pub returns-clause-bound : goal.returns-clause-bound
returns-clause-bound c =
    omega (
      arith,
      c.loop-left.invariant,
      three_digits c.loop-left.left c.if-left-lt100.false c.loop-left-test.false,
      ten_most c.args.number (omega arith),
    )
