use Rattle.uip_wire.proofs.Prelude.{refl, folded}
use Rattle.uip_wire.proofs.summer.Summer.new.Goals as goal

pub returns : goal.returns
unfolding folded
returns c = refl
