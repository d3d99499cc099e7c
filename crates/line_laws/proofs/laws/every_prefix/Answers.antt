use Rattle.line_laws.proofs.Prefixes.{prefix_kept}
use Rattle.line_laws.proofs.laws.every_prefix.Goals as goal

pub returns : goal.returns
returns g c = λ k. prefix_kept (g.M.Medium.spec k)
