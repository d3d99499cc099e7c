use Rattle.std.proofs.Common.{length, refl, take}
use Rattle.app_events.specs.Prelude.{text_left}
use Rattle.app_pair.proofs.PairParts.{can_send, in_first, in_second, reports}
use Rattle.app_pair.proofs.pair.AppPairApp.fill.Goals as goal

pub fill-requires : goal.fill-requires
fill-requires g c = can_send (in_first g.A.App g.B.App g.met.A.CanPair.can_pair g.met.B.CanPair.can_pair c.args.shared.now c.args.self.now
    c.in-First.app c.in-First.is) (length c.args.out.now) c.requires

pub fill-requires-in-Second : goal.fill-requires-in-Second
fill-requires-in-Second g c = can_send (in_second g.A.App g.B.App g.met.A.CanPair.can_pair g.met.B.CanPair.can_pair c.args.shared.now
    c.args.self.now c.in-Second.app c.in-Second.is) (length c.args.out.now) c.requires

pub returns-in-First : goal.returns-in-First
returns-in-First g c = reports (in_first g.A.App g.B.App g.met.A.CanPair.can_pair g.met.B.CanPair.can_pair c.args.shared.now c.args.self.now
    c.in-First.app c.in-First.is) c.fill.new.out (λ m l p. take (length c.args.out.now) (text_left m p)) (λ p. refl) c.fill.ensures

pub returns-in-Second : goal.returns-in-Second
returns-in-Second g c = reports (in_second g.A.App g.B.App g.met.A.CanPair.can_pair g.met.B.CanPair.can_pair c.args.shared.now
    c.args.self.now c.in-Second.app c.in-Second.is) c.fill-in-Second.new.out (λ m l p. take (length c.args.out.now) (text_left m p))
    (λ p. refl) c.fill-in-Second.ensures
