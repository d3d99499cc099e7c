use Rattle.link_replay.proofs.Prelude.{◌≡◌, drop, tick, handles_all, World, Follows, WorldRepresents}
use Rattle.link_replay.proofs.world.WorldOf.tick.Given as goal

abbrev pub invariant-loop-slot : goal.invariant-loop-slot
invariant-loop-slot g l =
    let a = g.A.App in
    let m = a.app_spec (a.config l.fn.self.node.shared) in
    record {
      follows : Follows a l.fn.self l.self;
      so_far : (w : World) → WorldRepresents a l.fn.self w
          → (v : World) × WorldRepresents a l.self v × (handles_all m a.served (drop l.slot tick) v ≡ handles_all m a.served tick w);
    }
