use Rattle.link_replay.proofs.Prelude.{ℕ, ◌∙◌, ap, not, nat_eq, step, resent}
use Rattle.link_replay.proofs.Counting.{resent_differs}
use Rattle.link_replay.proofs.world.before_call.Before.again.Goals as goal

-- src/world/before_call.rt
pub returns : goal.returns
returns g c = rw (← c.node.view_is) (λ m served n event before represented.
    ap (λ (x : ℕ). not (nat_eq x c.resent_of.result)) before.resent
    ∙ ap (λ (x : ℕ). not (nat_eq (resent n.history) x)) (c.resent_of.ensures (step m served n event).node.history represented.counts.net)
    ∙ resent_differs m served n event)
