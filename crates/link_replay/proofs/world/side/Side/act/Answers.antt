use Rattle.link_replay.proofs.Prelude.{sym, ap, ◌∙◌, subst, None, is_idle, CodeSide, Stepped, own_step, Own}
use Rattle.link_replay.proofs.Owning.{not_opened}
use Rattle.link_replay.proofs.world.side.Side.act.Goals as goal

pub returns-else-is_idle_client-clause-step : goal.returns-else-is_idle_client-clause-step
returns-else-is_idle_client-clause-step c = λ s h.
    subst (λ (o : Own). Stepped (own_step o s.client) s c.args.self.now None c.args.area.now) (sym c.in-Opens.is)
    (not_opened s c.args.self.now c.args.area.now (ap (λ (x : CodeSide). is_idle x.client.state) (sym c.self.view_is)
    ∙ sym c.is_idle_client.ensures ∙ c.if-is_idle_client.false) h)
