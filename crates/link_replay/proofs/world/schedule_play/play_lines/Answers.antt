use Rattle.link_replay.proofs.Prelude.{◌∷◌, ◌+◌, drop, get_or, List, ◌∙◌, sym, subst, map, Ok, Err, AllPass-from_list_all, slice_get-get_or}
use Rattle.link_replay.proofs.Prelude.{event_in_range, Line, ReadSchedule, IsAct, OfLine, World, plays, plays_line, LinesEnd, event_at}
use Rattle.link_replay.proofs.Prelude.{refusal_at, ActsEnd, IsAt, WorldRepresents}
use Rattle.link_schedule.specs.declared.event.Event.{Event}
use Rattle.link_replay.proofs.Pairs.{left_is}
use Rattle.link_replay.proofs.Played.{AmidLines, line_further, line_refused}
use Rattle.link_replay.proofs.world.schedule_play.play_lines.Goals as goal

pub loop-line-preserved : goal.loop-line-preserved
loop-line-preserved g c =
    let a = g.A.App in
    let m = a.app_spec (a.config c.args.world.now.node.shared) in
    record {
      same = c.line.ensures.same ∙ c.loop-line.invariant.same;
      so_far = λ w h s.
          (let i = c.loop-line.line-index in
          let d : Line = record { at = 0; event = Event.Opens 0 } in
          let line : Line = get_or c.args.lines.now i d in
          let left : List Line = drop (i + 1) c.args.lines.now in
          let fits : OfLine IsAct line.event = c.event_fits.ensures c.requires.ranges.0
          (AllPass-from_list_all (λ (l : Line). event_in_range c.requires.ranges.0 l.event) c.args.lines.now c.requires.ranges.1 i d c.loop-line-test.true) in
          let here : AmidLines m a.served (WorldRepresents a c.loop-line.world) i (line ∷ left) (plays m a.served (map event_at c.args.lines.now) w)
          = subst (λ (xs : List Line). AmidLines m a.served (WorldRepresents a c.loop-line.world) i xs
          (plays m a.served (map event_at c.args.lines.now) w)) (left_is c.args.lines.now i d c.loop-line-test.true) (c.loop-line.invariant.so_far w h s) in
          let done : (v : World) → IsAt m a.served v → WorldRepresents a c.loop-line.world v → ActsEnd (WorldRepresents a c.line.new.self)
          (Ok c.in_default.field-0) (plays_line m a.served v line.event)
          = subst (λ k. (v : World) → IsAt (a.app_spec k) a.served v → WorldRepresents a c.loop-line.world v
          → ActsEnd (WorldRepresents a c.line.new.self) (Ok c.in_default.field-0) (plays_line (a.app_spec k) a.served v line.event))
          c.loop-line.invariant.same c.in_default.ensures.line in
          line_further m a.served (WorldRepresents a c.loop-line.world) (WorldRepresents a c.line.new.self) line left i
          (plays m a.served (map event_at c.args.lines.now) w) c.in_default.field-0 fits done here);
    }

pub returns-in-Err : goal.returns-in-Err
returns-in-Err g c = record {
  played = λ w h s.
      let a = g.A.App in
      let m = a.app_spec (a.config c.args.world.now.node.shared) in
      let i = c.loop-line.line-index in
      let d : Line = record { at = 0; event = Event.Opens 0 } in
      let line : Line = get_or c.args.lines.now i d in
      let left : List Line = drop (i + 1) c.args.lines.now in
      let end = plays m a.served (map event_at c.args.lines.now) w in
      let here : AmidLines m a.served (WorldRepresents a c.loop-line.world) i (line ∷ left) end
      = subst (λ (xs : List Line). AmidLines m a.served (WorldRepresents a c.loop-line.world) i xs end)
      (left_is c.args.lines.now i d c.loop-line-test.true) (c.loop-line.invariant.so_far w h s) in
      let done : (v : World) → IsAt m a.served v → WorldRepresents a c.loop-line.world v → ActsEnd (WorldRepresents a c.line.new.self)
      (Err c.in-Err.fault) (plays_line m a.served v line.event)
      = subst (λ k. (v : World) → IsAt (a.app_spec k) a.served v → WorldRepresents a c.loop-line.world v
      → ActsEnd (WorldRepresents a c.line.new.self) (Err c.in-Err.fault) (plays_line (a.app_spec k) a.served v line.event))
      c.loop-line.invariant.same c.in-Err.ensures.line in
      subst (λ (e : ReadSchedule). LinesEnd m a.served (λ (done : Unit {0}). WorldRepresents a c.line.new.self) c.args.lines.now (Err e)
      end) {x = refusal_at line.at c.in-Err.fault}
      (sym {b = refusal_at line.at c.in-Err.fault} c.refused.ensures)
      (line_refused m a.served (λ (done : Unit {0}). WorldRepresents a c.line.new.self) (WorldRepresents a c.loop-line.world)
      (WorldRepresents a c.line.new.self) c.args.lines.now line left i end c.in-Err.fault
      (slice_get-get_or c.args.lines.now i d c.loop-line-test.true) done here);
}
