-- In, and through.
use Rattle.std.proofs.Common.{take}
use Rattle.guarded_node.specs.Guarded.{guarded}
use Rattle.guarded_node.specs.Verdicts.{verdict_on}
use Rattle.guarded_node.specs.Wire.{arriving, leaving}
use Rattle.guarded_node.proofs.Joining.{counts_of_held, of_held}
use Rattle.guarded_node.proofs.input.guarded_input_in_place.Goals as goal

pub returns-clause-counts : goal.returns-clause-counts
returns-clause-counts g c =
    let rules = c.args.guard.now.rules in
    counts_of_held g.A.App (λ bytes n. verdict_on rules g.A.App.served n (arriving rules.key bytes))
    (take c.args.len c.args.node.now.packet.area) c.args.node.now c.set_len.new.node _ _ c.set_len.ensures c.take_arrived.ensures.counts

pub returns-clause-takes : goal.returns-clause-takes
returns-clause-takes g c =
    let rules = c.args.guard.now.rules in
    of_held g.A.App (leaving rules.key) (λ bytes n. guarded rules g.A.App.served n bytes) (take c.args.len c.args.node.now.packet.area)
    c.args.node.now c.set_len.new.node c.take_arrived.new.node c.take_arrived.result c.set_len.ensures c.take_arrived.ensures.takes
