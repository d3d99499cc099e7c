use Rattle.link_world.proofs.laws.one_segment.Goals as goal
use Rattle.link_world.proofs.OneSegmentInvariant.{one_segment}

pub returns : goal.returns
returns c = one_segment
