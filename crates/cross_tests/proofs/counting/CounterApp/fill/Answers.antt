use Rattle.std.proofs.Common.{arith, length, ◌∙◌}
use Rattle.cross_tests.proofs.CounterSends.{room, written}
use Rattle.cross_tests.proofs.counting.CounterApp.fill.Goals as goal

pub copy_number-requires : goal.copy_number-requires
copy_number-requires c = omega (arith, room c.args.self.now (length c.args.out.now) c.requires)

pub returns : goal.returns
returns c = λ p s. c.copy_number.ensures ∙ written c.args.self.now (length c.args.out.now) c.requires p s
