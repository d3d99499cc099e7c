use Rattle.link_replay.proofs.Prelude.{ap, ◌∙◌, sym, AbstractClient, advertises_window}
use Rattle.link_replay.proofs.world.side.Side.advertise_window.Goals as goal

pub returns-clause-step : goal.returns-clause-step
returns-clause-step c = rw (← c.self.view_is) (λ s h. record {
  client = sym (c.set_window.ensures.step c.self.inside.request.items c.self.inside.received.items)
      ∙ ap (λ (k : AbstractClient). (advertises_window c.args.window k).client) h.client;
  epoch = h.epoch;
  first_stale = h.first_stale;
})
