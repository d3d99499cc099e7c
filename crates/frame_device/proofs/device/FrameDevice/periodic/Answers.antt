use Rattle.frame_device.proofs.Prelude.{◌∷◌, [], take, refl, Periodic, acts_before, guarded_link, leaving}
use Rattle.frame_device.proofs.HereLaws.{calls_events}
use Rattle.frame_device.proofs.device.FrameDevice.periodic.Goals as goal

pub returns-clause-answers : goal.returns-clause-answers
returns-clause-answers g c = record {
  kept = c.guarded_periodic-sent.ensures.takes.same;
  rules = refl;
  counts = λ k m own s here. refl;
  each = λ k m own s here.
      let w = guarded_link (g.M.Frames.spec k) c.args.self.now.guard.rules in
      calls_events g.A.App w m own s (λ acts. g.M.Frames.did c.begin_tick.new.frames k acts) c.args.self.now.node
      c.guarded_periodic-sent.new.node c.guarded_periodic-sent.result
      (acts_before w.link c.args.slot) (λ n. Periodic c.args.slot ∷ []) (take c.write_sent.result c.write_sent.new.out) (c.begin_tick.ensures.silent k)
      c.guarded_periodic-sent.ensures.takes (λ acts replies did is. c.write_sent.ensures.text k acts (leaving w.rules.key) own replies did is) here.represented
      (c.begin_tick.ensures.did k s.acts here.acted);
}
