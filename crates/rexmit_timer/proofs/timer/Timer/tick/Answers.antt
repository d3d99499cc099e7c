-- The result of a tick at an age, from the table of ages.
use Rattle.std.proofs.Common.{arith}
use Rattle.rexmit_timer.proofs.timer.Timer.tick.Goals as goal
use Rattle.rexmit_timer.proofs.AgeTable.{waits, repeats}

pub returns-then-self-gt0-clause-ages : goal.returns-then-self-gt0-clause-ages
returns-then-self-gt0-clause-ages c = λ age early at. waits c.args.limit age c.args.self.now c.requires.limit early at c.if-self-gt0.true

pub returns-clause-ages : goal.returns-clause-ages
returns-clause-ages c = λ age early at.
    rw c.next_count-self.ensures
    (repeats c.args.limit age c.args.self.now c.requires.limit early at (omega arith) (omega arith))
