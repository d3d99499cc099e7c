use Rattle.std.proofs.Common.{refl}
use Rattle.app_pair.proofs.PairParts.{can_send, counts, in_first, in_second, moves}
use Rattle.app_pair.proofs.pair.AppPairApp.acked.Goals as goal

pub acked-requires : goal.acked-requires
acked-requires g c = can_send (in_first g.A.App g.B.App g.met.A.CanPair.can_pair g.met.B.CanPair.can_pair c.args.shared.now c.args.self.now
    c.in-First.app c.in-First.is) c.args.count c.requires

pub acked-requires-in-Second : goal.acked-requires-in-Second
acked-requires-in-Second g c = can_send (in_second g.A.App g.B.App g.met.A.CanPair.can_pair g.met.B.CanPair.can_pair c.args.shared.now
    c.args.self.now c.in-Second.app c.in-Second.is) c.args.count c.requires

pub returns-in-First-clause-part : goal.returns-in-First-clause-part
returns-in-First-clause-part g c = moves (in_first g.A.App g.B.App g.met.A.CanPair.can_pair g.met.B.CanPair.can_pair c.args.shared.now
    c.args.self.now c.in-First.app c.in-First.is) c.acked.new.self (λ m l p. m.acked l p c.args.count) (λ p. refl)
    (λ x l p. (x.port.acked l p c.args.count, x.snapshots.acked l p c.args.count)) c.acked.ensures.part

pub returns-in-First-clause-numbers : goal.returns-in-First-clause-numbers
returns-in-First-clause-numbers g c = counts (in_first g.A.App g.B.App g.met.A.CanPair.can_pair g.met.B.CanPair.can_pair c.args.shared.now
    c.args.self.now c.in-First.app c.in-First.is) (g.A.App.numbers c.acked.new.shared) (λ m l p. (m.acked l p c.args.count).numbers)
    (λ p. refl) c.acked.ensures.numbers

pub returns-in-Second-clause-part : goal.returns-in-Second-clause-part
returns-in-Second-clause-part g c = moves (in_second g.A.App g.B.App g.met.A.CanPair.can_pair g.met.B.CanPair.can_pair c.args.shared.now
    c.args.self.now c.in-Second.app c.in-Second.is) c.acked-in-Second.new.self (λ m l p. m.acked l p c.args.count) (λ p. refl)
    (λ x l p. (x.port.acked l p c.args.count, x.snapshots.acked l p c.args.count)) c.acked-in-Second.ensures.part

pub returns-in-Second-clause-numbers : goal.returns-in-Second-clause-numbers
returns-in-Second-clause-numbers g c = counts (in_second g.A.App g.B.App g.met.A.CanPair.can_pair g.met.B.CanPair.can_pair c.args.shared.now
    c.args.self.now c.in-Second.app c.in-Second.is) (g.B.App.numbers c.acked-in-Second.new.shared)
    (λ m l p. (m.acked l p c.args.count).numbers) (λ p. refl) c.acked-in-Second.ensures.numbers
