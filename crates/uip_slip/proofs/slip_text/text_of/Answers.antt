use Rattle.uip_slip.proofs.TextTable.{one, text_at, two}
use Rattle.uip_slip.proofs.slip_text.text_of.Goals as goal

pub returns-clause-one : goal.returns-clause-one
returns-clause-one c = rw (text_at c.args.byte c.ranges.byte.fits) (one c.args.byte)

pub returns-clause-two : goal.returns-clause-two
returns-clause-two c = rw (text_at c.args.byte c.ranges.byte.fits) (two c.args.byte c.ranges.byte.fits)
