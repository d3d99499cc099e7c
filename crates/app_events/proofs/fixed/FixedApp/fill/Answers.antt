use Rattle.app_events.proofs.Prelude.{arith, length, ◌∙◌}
use Rattle.app_events.proofs.FixedSends.{room, written}
use Rattle.app_events.proofs.fixed.FixedApp.fill.Goals as goal

pub copy_hello-requires : goal.copy_hello-requires
copy_hello-requires c = omega (arith, room c.args.self.now (length c.args.out.now) c.requires)

pub returns : goal.returns
returns c = λ p s. c.copy_hello.ensures ∙ written c.args.self.now (length c.args.out.now) c.requires p s
