use Rattle.link_replay.proofs.Prelude.{◌∙◌}
use Rattle.link_replay.proofs.Losing.{lost_is_gone}
use Rattle.link_replay.proofs.world.before_call.Before.gone.Goals as goal

-- src/world/before_call.rt
pub returns : goal.returns
returns g c = rw (← c.node.view_is) (λ m served n event before represented.
    c.lost_in.ensures
    ∙ lost_is_gone g.A.App (g.A.App.config c.node.inside.shared) c.node.inside.table.conns c.deref.result.now m served n event
    (c.deref.ensures.0 ∙ before.pairs) represented.slots)
