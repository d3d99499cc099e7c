use Rattle.link_world.proofs.laws.damage_is_loss_there.Goals as goal
use Rattle.link_world.proofs.DamageThere.{damage_is_loss_there}

pub returns : goal.returns
returns c = damage_is_loss_there
