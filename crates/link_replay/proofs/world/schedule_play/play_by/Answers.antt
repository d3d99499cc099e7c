use Rattle.link_replay.proofs.Prelude.{list_all, ◌≡◌, ℕ, List, Some, sym, subst, length, map, slice_get, Ok, Err, true, event_in_range}
use Rattle.link_replay.proofs.Prelude.{Plan, content_of, Line, plays, IsPlanned, Planned, opening_for, plan_from, PlaysSchedule, event_at}
use Rattle.link_replay.proofs.Prelude.{WorldRepresents}
use Rattle.link_replay.proofs.Played.{handed_on, same_refusal, whole_schedule}
use Rattle.link_replay.proofs.world.schedule_play.play_by.Goals as goal

pub play_lines-requires : goal.play_lines-requires
play_lines-requires g c = record {
  ranges =
      let n = length c.schedule.inside.clients.items in (
        n,
        subst (λ (xs : List Line). list_all (λ (line : Line). event_in_range n line.event) xs ≡ true) (sym c.as_slice-2.ensures.value)
            c.schedule.invariant.lines_in_range,
      );
}

pub returns-in_err-play_lines-clause-plays : goal.returns-in_err-play_lines-clause-plays
returns-in_err-play_lines-clause-plays g c = rw (← c.schedule.view_is) (λ pages lawful bytes words.
    let a = g.A.App in
    let m = a.app_spec (a.config c.args.shared) in
    let schedule = content_of c.schedule.inside.clients.items c.schedule.inside.lines.items in
    let end = plays m a.served (map event_at schedule.lines) (opening_for (a.numbers c.args.shared) schedule.clients) in
    subst (λ r. PlaysSchedule m a.served (a.numbers c.args.shared) schedule (WorldRepresents a) r)
    (sym (handed_on c.from_residual.result c.in_err-play_lines.field-0.0 c.from_residual.ensures.0 c.from_residual.ensures.1))
    (same_refusal m a.served (λ (done : Unit {0}). WorldRepresents a c.play_lines.new.world) (WorldRepresents a) schedule.lines end
    c.in_err-play_lines.field-0.0
    (whole_schedule a c.in-Ok.world (WorldRepresents a c.play_lines.new.world) c.args.shared schedule
    c.as_slice.result.now c.as_slice-2.result.now (Err c.in_err-play_lines.field-0.0) c.schedule.invariant c.as_slice.ensures.value
    c.as_slice-2.ensures.value c.in-Ok.ensures.shared
    c.in-Ok.ensures.planned c.in-Ok.ensures.represented c.in_err-play_lines.ensures.played pages lawful bytes words)))

pub returns-clause-planned : goal.returns-clause-planned
returns-clause-planned g c = rw (← c.schedule.view_is)
    (subst (λ (xs : List Plan). (k : ℕ) (p : Planned) → slice_get (plan_from 1 xs) k ≡ Some p → IsPlanned p) c.as_slice.ensures.value
    c.in-Ok.ensures.planned)

pub returns-clause-plays : goal.returns-clause-plays
returns-clause-plays g c = rw (← c.schedule.view_is)
    (let a = g.A.App in
    whole_schedule a c.in-Ok.world (WorldRepresents a c.play_lines.new.world) c.args.shared
    (content_of c.schedule.inside.clients.items c.schedule.inside.lines.items)
    c.as_slice.result.now c.as_slice-2.result.now (Ok c.in_ok-play_lines.field-0) c.schedule.invariant c.as_slice.ensures.value
    c.as_slice-2.ensures.value c.in-Ok.ensures.shared
    c.in-Ok.ensures.planned c.in-Ok.ensures.represented c.in_ok-play_lines.ensures.played)
