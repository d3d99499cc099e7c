use Rattle.uip_slip.proofs.Ascii.{ascii}
use Rattle.uip_slip.proofs.marks.is_ascii.Goals as goal

pub returns : goal.returns
returns c = λ e. ascii c.args.bytes.now c.args.at c.requires e
