use Rattle.uip_wire.proofs.NumeralLaws.{numerals_print}
use Rattle.uip_wire.proofs.numerals.numerals_print.Goals as goal

pub returns : goal.returns
returns c = numerals_print
