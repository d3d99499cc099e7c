use Rattle.app_pair.proofs.PairParts.{has, in_first, in_second, prepares}
use Rattle.app_pair.proofs.pair.AppPairApp.prepare.Goals as goal

pub prepare-requires : goal.prepare-requires
prepare-requires g c = has (in_first g.A.App g.B.App g.met.A.CanPair.can_pair g.met.B.CanPair.can_pair c.args.shared.now c.args.self.now
    c.in-First.app c.in-First.is) c.requires

pub prepare-requires-in-Second : goal.prepare-requires-in-Second
prepare-requires-in-Second g c = has (in_second g.A.App g.B.App g.met.A.CanPair.can_pair g.met.B.CanPair.can_pair c.args.shared.now
    c.args.self.now c.in-Second.app c.in-Second.is) c.requires

pub returns-in-First : goal.returns-in-First
returns-in-First g c = prepares (in_first g.A.App g.B.App g.met.A.CanPair.can_pair g.met.B.CanPair.can_pair c.args.shared.now
    c.args.self.now c.in-First.app c.in-First.is) c.prepare.new.self c.args.now.now c.prepare.ensures

pub returns-in-Second : goal.returns-in-Second
returns-in-Second g c = prepares (in_second g.A.App g.B.App g.met.A.CanPair.can_pair g.met.B.CanPair.can_pair c.args.shared.now
    c.args.self.now c.in-Second.app c.in-Second.is) c.prepare-in-Second.new.self c.args.now.now c.prepare-in-Second.ensures
