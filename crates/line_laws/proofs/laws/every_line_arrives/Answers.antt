use Rattle.line_laws.proofs.Lines.{every_line_arrives}
use Rattle.line_laws.proofs.laws.every_line_arrives.Goals as goal

pub returns : goal.returns
returns g c = λ k decodes. every_line_arrives (g.M.Medium.spec k) decodes
