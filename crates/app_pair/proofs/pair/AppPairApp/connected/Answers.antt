use Rattle.std.proofs.Common.{sym, ◌∙◌}
use Rattle.app_pair.proofs.PairParts.{begins, first_side, opens, second_side}
use Rattle.app_pair.proofs.pair.AppPairApp.connected.Goals as goal

pub returns-then-serves-clause-part : goal.returns-then-serves-clause-part
returns-then-serves-clause-part g c =
    begins (second_side g.A.App g.B.App g.met.A.CanPair.can_pair g.met.B.CanPair.can_pair c.args.shared.now) c.connected.new.self
    c.args.port.0 (sym c.serves.ensures ∙ c.if-serves.true) c.connected.ensures.part

pub returns-then-serves-clause-numbers : goal.returns-then-serves-clause-numbers
returns-then-serves-clause-numbers g c =
    opens (second_side g.A.App g.B.App g.met.A.CanPair.can_pair g.met.B.CanPair.can_pair c.args.shared.now)
    (g.B.App.numbers c.connected.new.shared) c.args.port.0 (sym c.serves.ensures ∙ c.if-serves.true) c.connected.ensures.numbers

pub returns-else-serves-clause-part : goal.returns-else-serves-clause-part
returns-else-serves-clause-part g c =
    begins (first_side g.A.App g.B.App g.met.A.CanPair.can_pair g.met.B.CanPair.can_pair c.args.shared.now) c.connected-else-serves.new.self
    c.args.port.0 (sym c.serves.ensures ∙ c.if-serves.false) c.connected-else-serves.ensures.part

pub returns-else-serves-clause-numbers : goal.returns-else-serves-clause-numbers
returns-else-serves-clause-numbers g c =
    opens (first_side g.A.App g.B.App g.met.A.CanPair.can_pair g.met.B.CanPair.can_pair c.args.shared.now)
    (g.A.App.numbers c.connected-else-serves.new.shared) c.args.port.0 (sym c.serves.ensures ∙ c.if-serves.false) c.connected-else-serves.ensures.numbers
