use Rattle.app_events.proofs.Prelude.{arith}
use Rattle.app_events.proofs.FixedSends.{room, moves}
use Rattle.app_events.proofs.fixed.FixedApp.acked.Goals as goal

pub overflow_cast-self : goal.overflow_cast-self
overflow_cast-self c = omega (arith, room c.args.self.now c.args.count c.requires)

pub overflow_add-self : goal.overflow_add-self
overflow_add-self c = omega (arith, room c.args.self.now c.args.count c.requires)

pub returns-clause-part : goal.returns-clause-part
returns-clause-part c = λ p s. record { input = s.input; at = omega (arith, s.at); within = moves c.args.self.now c.args.count c.requires p s }
