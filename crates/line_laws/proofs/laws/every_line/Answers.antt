use Rattle.line_laws.proofs.Lines.{every_line}
use Rattle.line_laws.proofs.laws.every_line.Goals as goal

pub returns : goal.returns
returns g c = λ k decodes. every_line (g.M.Medium.spec k) decodes
