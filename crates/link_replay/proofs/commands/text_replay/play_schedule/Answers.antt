use Rattle.link_replay.proofs.Prelude.{⊤, WorldRepresents, sink_view}
use Rattle.link_replay.proofs.PlayedText.{played_due, refused_due}
use Rattle.link_replay.proofs.commands.text_replay.play_schedule.Goals as goal

pub returns-in-Ok : goal.returns-in-Ok
returns-in-Ok g c =
    played_due c.args.site c.see_loaded.ensures.loaded c.args.schedule.now c.args.chosen_form (sink_view g.K.Sink c.args.out.now)
    (sink_view g.K.Sink c.tell.new.out) c.tell.result c.see_loaded.ensures.bytes (WorldRepresents _ c.in-Ok.world) c.in-Ok.ensures.planned
    c.in-Ok.ensures.plays c.tell.ensures

pub returns-in-Err : goal.returns-in-Err
returns-in-Err g c =
    refused_due c.args.site c.see_loaded.ensures.loaded c.args.schedule.now c.args.chosen_form (sink_view g.K.Sink c.args.out.now)
    (sink_view g.K.Sink c.refuse.new.out) c.refuse.result (λ (x : ⊤) w. ⊤) c.in-Err.fault c.in-Err.ensures.plays c.refuse.ensures
