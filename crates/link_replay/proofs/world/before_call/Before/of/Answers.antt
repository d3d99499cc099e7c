use Rattle.link_replay.proofs.Prelude.{◌∙◌}
use Rattle.link_replay.proofs.Losing.{owners_represent}
use Rattle.link_replay.proofs.world.before_call.Before.of.Goals as goal

-- src/world/before_call.rt
pub returns : goal.returns
returns g c = rw (← c.node.view_is) (λ n represented. record {
  pairs = c.owners_in.ensures ∙ owners_represent g.A.App (g.A.App.config c.node.inside.shared) c.node.inside.table.conns n.connections represented.slots;
  resent = c.resent_of.ensures n.history represented.counts.net;
})
