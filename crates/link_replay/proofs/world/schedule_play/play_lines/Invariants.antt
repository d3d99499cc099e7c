use Rattle.link_replay.proofs.Prelude.{◌≡◌, drop, map, plays, World, event_at, IsAt, WorldRepresents}
use Rattle.link_replay.proofs.Played.{AmidLines}
use Rattle.link_replay.proofs.world.schedule_play.play_lines.Given as goal

abbrev pub invariant-loop-line : goal.invariant-loop-line
invariant-loop-line g l =
    let a = g.A.App in
    let m = a.app_spec (a.config l.fn.world.node.shared) in
    record {
      same : a.config l.world.node.shared ≡ a.config l.fn.world.node.shared;
      so_far : (w : World) → IsAt m a.served w → WorldRepresents a l.fn.world w
          → AmidLines m a.served (WorldRepresents a l.world) l.line-index (drop l.line-index l.lines) (plays m a.served (map event_at l.lines) w);
    }
