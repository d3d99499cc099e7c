use Rattle.std.proofs.Common.{refl}
use Rattle.app_pair.proofs.PairParts.{has, in_first, in_second, reports}
use Rattle.app_pair.proofs.pair.AppPairApp.want.Goals as goal

pub want-requires : goal.want-requires
want-requires g c = has (in_first g.A.App g.B.App g.met.A.CanPair.can_pair g.met.B.CanPair.can_pair c.args.shared.now c.args.self.now
    c.in-First.app c.in-First.is) c.requires

pub want-requires-in-Second : goal.want-requires-in-Second
want-requires-in-Second g c = has (in_second g.A.App g.B.App g.met.A.CanPair.can_pair g.met.B.CanPair.can_pair c.args.shared.now
    c.args.self.now c.in-Second.app c.in-Second.is) c.requires

pub returns-in-First : goal.returns-in-First
returns-in-First g c = reports (in_first g.A.App g.B.App g.met.A.CanPair.can_pair g.met.B.CanPair.can_pair c.args.shared.now c.args.self.now
    c.in-First.app c.in-First.is) c.want.result (λ m l p. m.want l p) (λ p. refl) c.want.ensures

pub returns-in-Second : goal.returns-in-Second
returns-in-Second g c = reports (in_second g.A.App g.B.App g.met.A.CanPair.can_pair g.met.B.CanPair.can_pair c.args.shared.now
    c.args.self.now c.in-Second.app c.in-Second.is) c.want-in-Second.result (λ m l p. m.want l p) (λ p. refl) c.want-in-Second.ensures
