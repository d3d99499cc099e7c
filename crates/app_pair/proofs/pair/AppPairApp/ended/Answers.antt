use Rattle.std.proofs.Common.{refl}
use Rattle.app_pair.proofs.PairParts.{counts, has, in_first, in_second}
use Rattle.app_pair.proofs.pair.AppPairApp.ended.Goals as goal

pub ended-requires : goal.ended-requires
ended-requires g c = has (in_first g.A.App g.B.App g.met.A.CanPair.can_pair g.met.B.CanPair.can_pair c.args.shared.now c.args.self.now
    c.in-First.app c.in-First.is) c.requires

pub ended-requires-in-Second : goal.ended-requires-in-Second
ended-requires-in-Second g c = has (in_second g.A.App g.B.App g.met.A.CanPair.can_pair g.met.B.CanPair.can_pair c.args.shared.now
    c.args.self.now c.in-Second.app c.in-Second.is) c.requires

pub returns-in-First-clause-numbers : goal.returns-in-First-clause-numbers
returns-in-First-clause-numbers g c = counts (in_first g.A.App g.B.App g.met.A.CanPair.can_pair g.met.B.CanPair.can_pair c.args.shared.now
    c.args.self.now c.in-First.app c.in-First.is) (g.A.App.numbers c.ended.new.shared) (λ m l p. m.ended l p c.args.how) (λ p. refl) c.ended.ensures.numbers

pub returns-in-Second-clause-numbers : goal.returns-in-Second-clause-numbers
returns-in-Second-clause-numbers g c = counts (in_second g.A.App g.B.App g.met.A.CanPair.can_pair g.met.B.CanPair.can_pair c.args.shared.now
    c.args.self.now c.in-Second.app c.in-Second.is) (g.B.App.numbers c.ended-in-Second.new.shared) (λ m l p. m.ended l p c.args.how)
    (λ p. refl) c.ended-in-Second.ensures.numbers
