use Rattle.frame_device.proofs.Prelude.{ℕ, ◌+◌, ◌-◌, ◌∷◌, ◌∙◌, [], ap, arith, refl, sym, drop, take, Datagram, counts_by_inputs}
use Rattle.frame_device.proofs.Prelude.{guarded_link, leaving}
use Rattle.frame_device.proofs.HereLaws.{brings_datagram, brings_own, brings_silent, silent_counts}
use Rattle.frame_device.proofs.device.FrameDevice.input.Goals as goal

pub returns-in-Nothing-clause-answers : goal.returns-in-Nothing-clause-answers
returns-in-Nothing-clause-answers g c = record {
  kept = refl;
  rules = refl;
  each = λ k m own s here.
      brings_silent g.A.App (guarded_link (g.M.Frames.spec k) c.args.self.now.guard.rules) m own s
      (λ acts. g.M.Frames.did c.take.new.self k acts) c.args.self.now.node
      ((g.M.Frames.spec k).decodes (take c.args.len c.args.buf.now)) (rw c.in-Nothing.is at (c.take.ensures.reported k s.acts here.acted)) here.represented
      (c.take.ensures.did k s.acts here.acted);
  counts = λ k m own s here.
      silent_counts (g.M.Frames.spec k) c.args.self.now.guard.rules g.A.App.served s.node
      ((g.M.Frames.spec k).decodes (take c.args.len c.args.buf.now)) c.args.self.now.guard.counts
      (rw c.in-Nothing.is at (c.take.ensures.reported k s.acts here.acted));
}

pub returns-in-Own-clause-answers : goal.returns-in-Own-clause-answers
returns-in-Own-clause-answers g c = record {
  kept = refl;
  rules = refl;
  each = λ k m own s here.
      let reported = rw c.in-Own.is at (c.take.ensures.reported k s.acts here.acted) in
      brings_own g.A.App (guarded_link (g.M.Frames.spec k) c.args.self.now.guard.rules) m own s
      (λ acts. g.M.Frames.did c.take.new.self k acts) c.args.self.now.node
      ((g.M.Frames.spec k).decodes (take c.args.len c.args.buf.now)) reported.0 _ reported.1 reported.2 here.represented
      (c.take.ensures.did k s.acts here.acted);
  counts = λ k m own s here.
      let reported = rw c.in-Own.is at (c.take.ensures.reported k s.acts here.acted) in
      ap (λ cs. counts_by_inputs c.args.self.now.guard.rules g.A.App.served s.node cs c.args.self.now.guard.counts) (sym reported.1);
}

pub returns-in-Datagram-clause-answers : goal.returns-in-Datagram-clause-answers
returns-in-Datagram-clause-answers g c =
    let at = c.in-Datagram.at in
    let len = c.in-Datagram.len in
    let datagram = λ (n : ℕ). take n (drop at c.take.new.buf) in
    record {
      kept = c.guarded_input-sent.ensures.takes.same;
      rules = c.guarded_input-sent.ensures.rules;
      each = λ k m own s here.
          let reported = rw c.in-Datagram.is at (c.take.ensures.reported k s.acts here.acted) in
          let w = guarded_link (g.M.Frames.spec k) c.args.self.now.guard.rules in
          brings_datagram g.A.App w m own s (λ acts. g.M.Frames.did c.take.new.self k acts) c.args.self.now.node
          c.guarded_input-sent.new.node c.guarded_input-sent.result
          ((g.M.Frames.spec k).decodes (take c.args.len c.args.buf.now)) (datagram (at + len - at)) (take c.write_sent.result c.write_sent.new.out)
          (reported ∙ ap (λ n. Datagram (datagram n) ∷ []) (omega arith)) c.guarded_input-sent.ensures.takes
          (λ acts replies did is. c.write_sent.ensures.text k acts (leaving w.rules.key) own replies did is) here.represented
          (c.take.ensures.did k s.acts here.acted);
      counts = λ k m own s here.
          let reported = rw c.in-Datagram.is at (c.take.ensures.reported k s.acts here.acted) in
          c.guarded_input-sent.ensures.counts s.node here.represented.represented
          ∙ ap (λ cs. counts_by_inputs c.args.self.now.guard.rules g.A.App.served s.node cs c.args.self.now.guard.counts)
          (sym (reported ∙ ap (λ n. Datagram (datagram n) ∷ []) (omega arith)));
    }
