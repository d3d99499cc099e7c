use Rattle.link_replay.proofs.Prelude.{◌≡◌, List, sym, ap, ◌∙◌, subst, Ok, arith, length, All, runs, acts_of, Act, IsAct, ActsEnd, Stops}
use Rattle.link_replay.proofs.Prelude.{WorldRepresents}
use Rattle.link_replay.proofs.Reaching.{handed}
use Rattle.link_replay.proofs.Lines.{all_acts, line_done}
use Rattle.link_replay.proofs.world.WorldOf.line.Goals as goal

pub run-requires : goal.run-requires
run-requires g c = record {
  acts =
      subst (λ (xs : List Act). All IsAct xs) (sym c.as_slice.ensures.value)
      (all_acts (g.A.App.app_spec (g.A.App.config c.args.self.now.node.shared)) g.A.App.served c.in-Ok.acts.items c.args.event.now
      c.self.inside.mark c.len-sent.result c.in-Ok.ensures c.requires.event);
}

pub returns-clause-line : goal.returns-clause-line
returns-clause-line g c = λ w h s.
    let a = g.A.App in
    let m = a.app_spec (a.config c.args.self.now.node.shared) in
    let t = subst (λ x. WorldRepresents a x w) (sym c.self.view_is) s in
    let sent : length w.sent ≡ c.len-sent.result = omega (arith, t.link.sent.same_length, c.len-sent.ensures) in
    let acts : c.as_slice.result.now ≡ acts_of w c.args.event.now = c.as_slice.ensures.value ∙ c.in-Ok.ensures w (sym t.mark) sent in
    let ran : ActsEnd (WorldRepresents a c.run.new.self) (Ok c.in_ok-run.field-0) (runs m a.served c.as_slice.result.now w)
    = subst (λ r. ActsEnd (WorldRepresents a c.run.new.self) r (runs m a.served c.as_slice.result.now w)) c.in_ok-run.was (c.run.ensures.run w h s) in
    line_done a m a.served _ w ran.0 c.args.event.now c.mark_after-self-inside.result
    (ap (λ xs. runs m a.served xs w) (sym acts) ∙ ran.1) (c.mark_after-self-inside.ensures w (sym t.mark) sent)
    (subst (λ x. WorldRepresents a x ran.0) (sym c.self-2.view_is) ran.2)

pub returns-in_err-run-clause-stops : goal.returns-in_err-run-clause-stops
returns-in_err-run-clause-stops g c = λ w h s.
    let a = g.A.App in
    let m = a.app_spec (a.config c.args.self.now.node.shared) in
    let t = subst (λ x. WorldRepresents a x w) (sym c.self.view_is) s in
    let sent : length w.sent ≡ c.len-sent.result = omega (arith, t.link.sent.same_length, c.len-sent.ensures) in
    let acts : c.as_slice.result.now ≡ acts_of w c.args.event.now = c.as_slice.ensures.value ∙ c.in-Ok.ensures w (sym t.mark) sent in
    subst (λ xs. Stops m a.served (WorldRepresents a c.run.new.self) xs w c.from_residual.result) acts
    (subst (λ r. Stops m a.served (WorldRepresents a c.run.new.self) c.as_slice.result.now w r)
    (sym (handed c.from_residual.result c.in_err-run.field-0.0 c.from_residual.ensures.0 c.from_residual.ensures.1))
    (c.in_err-run.ensures.stops w h s))
