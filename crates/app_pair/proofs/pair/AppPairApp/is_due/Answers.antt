use Rattle.app_pair.proofs.PairParts.{has, in_first, in_second, rests}
use Rattle.app_pair.proofs.pair.AppPairApp.is_due.Goals as goal

pub is_due-requires : goal.is_due-requires
is_due-requires g c = has (in_first g.A.App g.B.App g.met.A.CanPair.can_pair g.met.B.CanPair.can_pair c.args.shared.now c.args.self.now
    c.in-First.app c.in-First.is) c.requires

pub is_due-requires-in-Second : goal.is_due-requires-in-Second
is_due-requires-in-Second g c = has (in_second g.A.App g.B.App g.met.A.CanPair.can_pair g.met.B.CanPair.can_pair c.args.shared.now
    c.args.self.now c.in-Second.app c.in-Second.is) c.requires

pub returns-in-First : goal.returns-in-First
returns-in-First g c = record {
  not_due = λ e p now s. rests (in_first g.A.App g.B.App g.met.A.CanPair.can_pair g.met.B.CanPair.can_pair
      c.args.shared.now c.args.self.now c.in-First.app c.in-First.is) now (λ q h. c.is_due.ensures.not_due e q now h) p s;
}

pub returns-in-Second : goal.returns-in-Second
returns-in-Second g c = record {
  not_due = λ e p now s. rests (in_second g.A.App g.B.App g.met.A.CanPair.can_pair g.met.B.CanPair.can_pair
      c.args.shared.now c.args.self.now c.in-Second.app c.in-Second.is) now (λ q h. c.is_due-in-Second.ensures.not_due e q now h) p s;
}
