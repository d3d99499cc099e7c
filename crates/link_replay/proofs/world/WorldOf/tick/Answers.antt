use Rattle.link_replay.proofs.Prelude.{ℕ, List, sym, ap, ◌∙◌, subst, Event, Periodic, handles_all, World, node_handles, WorldRepresents}
use Rattle.link_replay.proofs.Handling.{next_call}
use Rattle.link_replay.proofs.world.WorldOf.tick.Goals as goal

pub loop-slot-preserved : goal.loop-slot-preserved
loop-slot-preserved g c =
    let a = g.A.App in
    let inv = c.loop-slot.invariant in
    let slot : ℕ = c.loop-slot.slot in
    let m = a.app_spec (a.config c.args.self.now.node.shared) in
    record {
      follows = record { same = c.node_ticks.ensures.same ∙ inv.follows.same; mark = c.node_ticks.ensures.mark ∙ inv.follows.mark };
      so_far = λ w s.
          (let here = inv.so_far w s in
          let v : World = node_handles m a.served here.0 (Periodic slot) in
          let now : WorldRepresents a c.node_ticks.new.self v
          = subst (λ k. WorldRepresents a c.node_ticks.new.self (node_handles (a.app_spec k) a.served here.0 (Periodic slot)))
          inv.follows.same (c.in_ok-node_ticks.ensures.ticked here.0 here.1) in
          (v, now, ap (λ (es : List Event). handles_all m a.served es here.0) (sym (next_call slot c.loop-slot-test.true)) ∙ here.2));
    }
