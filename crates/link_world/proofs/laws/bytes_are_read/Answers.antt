use Rattle.link_world.proofs.laws.bytes_are_read.Goals as goal
use Rattle.link_world.proofs.Reading.{bytes_are_read}

pub returns : goal.returns
returns c = bytes_are_read
