use Rattle.link_world.proofs.laws.damage_is_loss.Goals as goal
use Rattle.link_world.proofs.Loss.{damage_is_loss}

pub returns : goal.returns
returns c = damage_is_loss
