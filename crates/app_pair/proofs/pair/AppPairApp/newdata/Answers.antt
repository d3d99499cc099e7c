use Rattle.std.proofs.Common.{refl}
use Rattle.app_pair.proofs.PairParts.{counts, has, in_first, in_second, moves}
use Rattle.app_pair.proofs.pair.AppPairApp.newdata.Goals as goal

pub newdata-requires : goal.newdata-requires
newdata-requires g c = has (in_first g.A.App g.B.App g.met.A.CanPair.can_pair g.met.B.CanPair.can_pair c.args.shared.now c.args.self.now
    c.in-First.app c.in-First.is) c.requires

pub newdata-requires-in-Second : goal.newdata-requires-in-Second
newdata-requires-in-Second g c = has (in_second g.A.App g.B.App g.met.A.CanPair.can_pair g.met.B.CanPair.can_pair c.args.shared.now
    c.args.self.now c.in-Second.app c.in-Second.is) c.requires

pub returns-in-First-clause-part : goal.returns-in-First-clause-part
returns-in-First-clause-part g c = moves (in_first g.A.App g.B.App g.met.A.CanPair.can_pair g.met.B.CanPair.can_pair c.args.shared.now
    c.args.self.now c.in-First.app c.in-First.is) c.newdata.new.self (λ m l p. m.newdata l p c.args.piece.now) (λ p. refl)
    (λ x l p. (x.port.newdata l p c.args.piece.now, x.snapshots.newdata l p c.args.piece.now)) c.newdata.ensures.part

pub returns-in-First-clause-numbers : goal.returns-in-First-clause-numbers
returns-in-First-clause-numbers g c = counts (in_first g.A.App g.B.App g.met.A.CanPair.can_pair g.met.B.CanPair.can_pair c.args.shared.now
    c.args.self.now c.in-First.app c.in-First.is) (g.A.App.numbers c.newdata.new.shared) (λ m l p. (m.newdata l p c.args.piece.now).numbers)
    (λ p. refl) c.newdata.ensures.numbers

pub returns-in-Second-clause-part : goal.returns-in-Second-clause-part
returns-in-Second-clause-part g c = moves (in_second g.A.App g.B.App g.met.A.CanPair.can_pair g.met.B.CanPair.can_pair c.args.shared.now
    c.args.self.now c.in-Second.app c.in-Second.is) c.newdata-in-Second.new.self (λ m l p. m.newdata l p c.args.piece.now) (λ p. refl)
    (λ x l p. (x.port.newdata l p c.args.piece.now, x.snapshots.newdata l p c.args.piece.now)) c.newdata-in-Second.ensures.part

pub returns-in-Second-clause-numbers : goal.returns-in-Second-clause-numbers
returns-in-Second-clause-numbers g c = counts (in_second g.A.App g.B.App g.met.A.CanPair.can_pair g.met.B.CanPair.can_pair c.args.shared.now
    c.args.self.now c.in-Second.app c.in-Second.is) (g.B.App.numbers c.newdata-in-Second.new.shared)
    (λ m l p. (m.newdata l p c.args.piece.now).numbers) (λ p. refl) c.newdata-in-Second.ensures.numbers
