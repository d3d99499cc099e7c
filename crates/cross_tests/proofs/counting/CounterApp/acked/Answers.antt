use Rattle.std.proofs.Common.{arith}
use Rattle.cross_tests.proofs.CounterSends.{room, moves}
use Rattle.cross_tests.proofs.counting.CounterApp.acked.Goals as goal

pub overflow_cast-self : goal.overflow_cast-self
overflow_cast-self c = omega (arith, room c.args.self.now c.args.count c.requires)

pub overflow_add-self : goal.overflow_add-self
overflow_add-self c = omega (arith, room c.args.self.now c.args.count c.requires)

pub returns-clause-part : goal.returns-clause-part
returns-clause-part c = λ p s. record {
  input = s.input;
  number = s.number;
  at = omega (arith, s.at);
  within = moves c.args.self.now c.args.count c.requires p s;
}
