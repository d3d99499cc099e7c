use Rattle.uip_wire.proofs.Prelude.{◌∙◌}
use Rattle.uip_wire.proofs.Wide.{swapped_back}
use Rattle.uip_wire.proofs.sums.ones_sum.Goals as goal

pub returns : goal.returns
returns c = swapped_back c.args.bytes.now c.fold-swapped.result (c.fold-swapped.ensures ∙ c.wide_sum.ensures.same)
