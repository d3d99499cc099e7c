use Rattle.link_replay.proofs.Prelude.{◌∷◌, [], ◌+◌, drop, get_or, List, ◌∙◌, refl, sym, subst, arith, Ok, Err, drop_all, World, acts, Act}
use Rattle.link_replay.proofs.Prelude.{IsAct, IsAt, ActSteps, Stops, WorldRepresents}
use Rattle.link_replay.proofs.Pairs.{left_is}
use Rattle.link_replay.proofs.Reaching.{Gone, all_gone, ends_stopped, gone_on, handed, stopped}
use Rattle.link_replay.proofs.world.WorldOf.run.Goals as goal

pub loop-act-preserved : goal.loop-act-preserved
loop-act-preserved g c =
    let a = g.A.App in
    let m = a.app_spec (a.config c.args.self.now.node.shared) in
    let old = c.loop-act.invariant.follows in
    record {
      follows = record { same = c.step.ensures.same ∙ old.same; mark = c.step.ensures.mark ∙ old.mark };
      gone = λ w h s.
          (let i = c.loop-act.act-index in
          let d = Act.Opens 0 in
          let act : Act = get_or c.args.acts.now i d in
          let left : List Act = drop (i + 1) c.args.acts.now in
          let is : IsAct act = c.requires.acts i d c.loop-act-test.true in
          let here : Gone m a.served (WorldRepresents a c.loop-act.self) w c.args.acts.now (act ∷ left)
          = subst (λ (xs : List Act). Gone m a.served (WorldRepresents a c.loop-act.self) w c.args.acts.now xs)
          (left_is c.args.acts.now i d c.loop-act-test.true) (c.loop-act.invariant.gone w h s) in
          let done : (v : World) → IsAt m a.served v → WorldRepresents a c.loop-act.self v → ActSteps (WorldRepresents a c.step.new.self) v
          (Ok c.in_ok-step.field-0) (acts m a.served v act)
          = subst (λ k. (v : World) → IsAt (a.app_spec k) a.served v → WorldRepresents a c.loop-act.self v
          → ActSteps (WorldRepresents a c.step.new.self) v (Ok c.in_ok-step.field-0) (acts (a.app_spec k) a.served v act)) old.same
          (subst (λ r. (v : World) → IsAt (a.app_spec (a.config c.loop-act.self.node.shared)) a.served v → WorldRepresents a c.loop-act.self
          v → ActSteps (WorldRepresents a c.step.new.self) v r (acts (a.app_spec (a.config c.loop-act.self.node.shared)) a.served v act))
          c.in_ok-step.was c.step.ensures.step) in
          gone_on m a.served (WorldRepresents a c.loop-act.self) (WorldRepresents a c.step.new.self) w act left c.args.acts.now
          c.in_ok-step.field-0 is done here);
    }

pub loop-act-init : goal.loop-act-init
loop-act-init g c = record {
  follows = record { same = refl; mark = refl };
  gone = λ w h s. record { before = []; joined = refl; world = w; reached = refl; at = h; now = s };
}

pub returns-clause-run : goal.returns-clause-run
returns-clause-run g c = λ w h s. all_gone (g.A.App.app_spec (g.A.App.config c.args.self.now.node.shared)) g.A.App.served
    (WorldRepresents g.A.App c.loop-act.self) w c.args.acts.now (drop c.loop-act.act-index c.args.acts.now)
    (drop_all c.loop-act.act-index c.args.acts.now (omega arith)) (c.loop-act.invariant.gone w h s)

pub returns-in_err-step-clause-stops : goal.returns-in_err-step-clause-stops
returns-in_err-step-clause-stops g c = λ w h s.
    let a = g.A.App in
    let m = a.app_spec (a.config c.args.self.now.node.shared) in
    let i = c.loop-act.act-index in
    let d = Act.Opens 0 in
    let act : Act = get_or c.args.acts.now i d in
    let left : List Act = drop (i + 1) c.args.acts.now in
    let done : (v : World) → IsAt m a.served v → WorldRepresents a c.loop-act.self v → ActSteps (WorldRepresents a c.step.new.self) v
    (Err c.in_err-step.field-0.0) (acts m a.served v act)
    = subst (λ k. (v : World) → IsAt (a.app_spec k) a.served v → WorldRepresents a c.loop-act.self v
    → ActSteps (WorldRepresents a c.step.new.self) v (Err c.in_err-step.field-0.0) (acts (a.app_spec k) a.served v act))
    c.loop-act.invariant.follows.same c.in_err-step.ensures.step in
    let here : Gone m a.served (WorldRepresents a c.loop-act.self) w c.args.acts.now (act ∷ left)
    = subst (λ (xs : List Act). Gone m a.served (WorldRepresents a c.loop-act.self) w c.args.acts.now xs)
    (left_is c.args.acts.now i d c.loop-act-test.true) (c.loop-act.invariant.gone w h s) in
    subst (λ r. Stops m a.served (WorldRepresents a c.step.new.self) c.args.acts.now w r)
    (sym (handed c.from_residual.result c.in_err-step.field-0.0 c.from_residual.ensures.0 c.from_residual.ensures.1))
    (stopped m a.served (WorldRepresents a c.loop-act.self) (WorldRepresents a c.step.new.self) w act left c.args.acts.now c.in_err-step.field-0.0 done here)

pub returns-in_err-step-clause-run : goal.returns-in_err-step-clause-run
returns-in_err-step-clause-run g c = λ w h s.
    let r = handed c.from_residual.result c.in_err-step.field-0.0 c.from_residual.ensures.0 c.from_residual.ensures.1 in
    ends_stopped (g.A.App.app_spec (g.A.App.config c.args.self.now.node.shared)) g.A.App.served (WorldRepresents g.A.App c.step.new.self)
    c.args.acts.now w c.from_residual.result c.in_err-step.field-0.0 r (returns-in_err-step-clause-stops g c w h s)
